-- The words of a line, one after another.
use Rattle.std.proofs.Common.{◌≡◌, ℕ, suc, ◌+◌, true, false, eqb, List, [], ◌∷◌, take, drop, refl, ap, ⊎_elim, one-add}
use Rattle.std.proofs.lemmas.Bool.{cases_Bool}
use Rattle.std.specs.List.{prefix_len}
use Rattle.model.specs.Lines.{solid, front}
use Rattle.script.specs.Script.{parts, words_of}

-- the first word, and those behind the space that ends it
pub parts_step : (bs : List ℕ) → parts bs ≡ take (prefix_len solid bs) bs ∷ words_of (drop (prefix_len solid bs) bs)
parts_step [] = refl
parts_step (b ∷ bs) =
    ⊎_elim
    (λ (e : eqb b 32 ≡ true). simp e)
    (λ (e : eqb b 32 ≡ false). let more : 1 + prefix_len solid bs ≡ suc (prefix_len solid bs) = one-add _ in simp (e, more) (ap (front b) (parts_step bs)))
    (cases_Bool (eqb b 32))
