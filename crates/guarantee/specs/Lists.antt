-- LISTS OF CALLS: each call from what the one before it left.
use Rattle.std.specs.Prelude.{◌≡◌, ℕ, List, [], ◌∷◌}
use Rattle.model.specs.Schedule.{Schedule}
use Rattle.model.specs.Lives.{Table}
use Rattle.model.specs.Schemes.{Meaning}
use Rattle.model.specs.Domains.{Domain}
use Rattle.guarantee.specs.Calls.{Call, Standing, State, Answer}
use Rattle.guarantee.specs.PlainPacker.{PlainCall}
use Rattle.guarantee.specs.Guarantees.{reply, Guaranteed}

-- One step after the other, through two lists of one length.
abbrev pub Chain : {S A B : Type 0} → (S → A → B → S → Type 0) → S → List A → List B → S → Type 0
Chain R s [] [] t = t ≡ s
Chain R s [] (y ∷ ys) t = ⊥
Chain R s (x ∷ xs) [] t = ⊥
Chain {S} R s (x ∷ xs) (y ∷ ys) t = (m : S) × (R s x y m × Chain R m xs ys t)

-- A place of a list: a call; or a call that was made, with the buffers that it left, and its answer.
pub data Entry (V : Type 0) : Type 0 where
  asked : Call V → Entry V
  answered : Call V → Answer → Entry V

-- A call that was made before stays as it is.
abbrev pub Settled : {S V : Type 0} → S → Call V → Answer → Entry V → S → Type 0
Settled s c a (asked d) t = ⊥
Settled s c a (answered d b) t = (d ≡ c) × (b ≡ a) × (t ≡ s)

-- One place: its call is made, with the guarantee.
module _ {S V : Type 0} (meaning : S → Meaning) (place : S → ℕ → ℕ → ℕ) (dom : Domain V) where
  abbrev pub Made : State S → Call V → Entry V → State S → Type 0
  Made s c (asked d) t = ⊥
  Made s c (answered d a) t = Guaranteed meaning place dom s c a d t

  abbrev pub Played : State S → Entry V → Entry V → State S → Type 0
  Played s (asked c) e t = Made s c e t
  Played s (answered c a) e t = Settled s c a e t

-- The same place, as the plain packer is fed it.
module _ {V : Type 0} (dom : Domain V) (need : Table → ℕ) (file : ℕ) where
  abbrev pub PlainMade : Standing Schedule → Call V → Entry V → Standing Schedule → Type 0
  PlainMade s c (asked d) t = ⊥
  PlainMade s c (answered d a) t = PlainCall dom need file s c (reply d a) t

  abbrev pub PlainPlayed : Standing Schedule → Entry V → Entry V → Standing Schedule → Type 0
  PlainPlayed s (asked c) e t = PlainMade s c e t
  PlainPlayed s (answered c a) e t = Settled s c a e t
