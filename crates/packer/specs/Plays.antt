-- THE GUARANTEE OVER A LIST OF CALLS.
use Rattle.std.specs.Prelude.{ℕ, List}
use Rattle.model.specs.Schemes.{Meaning}
use Rattle.model.specs.Domains.{Domain}
use Rattle.guarantee.specs.Calls.{State}
use Rattle.guarantee.specs.Guarantees.{plainly}
use Rattle.guarantee.specs.Lists.{Chain, Made, Played, PlainPlayed}
use Rattle.standing.specs.declared.Desk.{Desk}
use Rattle.standing.specs.Seen.{standing_seen}
use Rattle.packer_laws.specs.States.{state, Whole}
use Rattle.packer.specs.declared.request.Call.{Call}
use Rattle.packer.specs.declared.request.Entry.{Entry}
use Rattle.packer.specs.Requests.{call_seen, entry_seen}

module _ {S V : Type 0} (meaning : S → Meaning) (place : S → ℕ → ℕ → ℕ) (dom : Domain V) where
  -- One call, and one place of a list, of a whole packer.
  abbrev pub MadeOne : S → Desk → Call V → Entry V → S → Desk → Type 0
  MadeOne scheme desk c e scheme' desk' =
      Whole meaning place dom scheme desk → Made meaning place dom (state scheme desk) (call_seen c) (entry_seen e) (state scheme' desk') × Whole meaning place dom scheme' desk'

  abbrev pub PlayedOne : State S → Entry V → Entry V → State S → Type 0
  PlayedOne s e f t = Played meaning place dom s (entry_seen e) (entry_seen f) t

  -- Of a packer from its making on, after each call of the list, not only the last:
  pub record Plays (scheme : S) (desk : Desk) (es fs : List (Entry V)) (scheme' : S) (desk' : Desk) : Type 0 where
    -- each call, from what the one before it left, keeps the guarantee
    pub each : Chain PlayedOne (state scheme desk) es fs (state scheme' desk')
    -- the plain packer, fed the same calls from the same state, replies the same all along, and the same schedule and trip count stand in it
    pub plain : Chain (λ s e f t. PlainPlayed dom (meaning scheme).need (meaning scheme).file s (entry_seen e) (entry_seen f) t)
        (plainly (standing_seen desk.standing)) es fs (plainly (standing_seen desk'.standing))
    -- and it is a packer for more
    pub whole : Whole meaning place dom scheme' desk'
