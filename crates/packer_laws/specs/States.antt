-- A packer by its scheme and its desk, and what each call answers, as the definitions have them.
use Rattle.std.specs.Prelude.{◌≡◌, ℕ, List, map, Some, Ok, Err, Result}
use Rattle.model.specs.declared.Parts.{Parts}
use Rattle.model.specs.Schemes.{Meaning}
use Rattle.model.specs.Domains.{Domain}
use Rattle.engine_writes.specs.declared.waiting.Waiting.{Waiting}
use Rattle.engine_writes.specs.Files.{entry_of}
use Rattle.schedule.specs.declared.Scheduled.{Scheduled}
use Rattle.listing.specs.Written.{Is}
use Rattle.guarantee.specs.Calls.{Buffers, Call, ListedBody, listing_in, Planned, State, Answer, accepted, planned, expanded, ran, refused}
use Rattle.guarantee.specs.Guarantees.{listing_of, Sound, Guaranteed}
use Rattle.standing.specs.declared.PackFault.{PackFault}
use Rattle.standing.specs.declared.Desk.{Desk}
use Rattle.standing.specs.Faults.{fault}
use Rattle.standing.specs.Seen.{standing_seen, slots_held, planned_seen}

abbrev pub state : {S : Type 0} → S → Desk → State S
state scheme desk = record { stands = standing_seen desk.standing; scheme = scheme; slots = slots_held desk.standing desk.listing }

-- The three slices that a run is lent.
abbrev pub buffers : {V : Type 0} → List V → List V → List (Waiting V) → Buffers V
buffers memory values waiting = record { memory = memory; values = values; waiting = map entry_of waiting }

-- What a call answers.
abbrev pub text_answer : Result (Unit {0}) PackFault → Answer
text_answer (Ok u) = accepted
text_answer (Err f) = refused (fault f)

abbrev pub plan_answer : Result Scheduled PackFault → Answer
plan_answer (Ok p) = planned (planned_seen p)
plan_answer (Err f) = refused (fault f)

abbrev pub expand_answer : Result Parts PackFault → Answer
expand_answer (Ok parts) = expanded parts
expand_answer (Err f) = refused (fault f)

abbrev pub run_answer : Result ℕ PackFault → Answer
run_answer (Ok n) = ran n
run_answer (Err f) = refused (fault f)

module _ {S V : Type 0} (meaning : S → Meaning) (place : S → ℕ → ℕ → ℕ) (dom : Domain V) where
  -- A packer from its making on: what stands is sound, and the listing says what the plan's says.
  pub record Whole (scheme : S) (desk : Desk) : Type 0 where
    pub sound : Sound meaning place dom (state scheme desk)
    pub written : (l : ListedBody Planned) → listing_in (standing_seen desk.standing) ≡ Some l →
        Is desk.listing (listing_of (meaning scheme) l.ops l.plan l.trips)

  -- A call of a whole packer keeps the guarantee, and leaves a whole packer; d is the call with the buffers that it leaves.
  abbrev pub Kept : S → Desk → Call V → Answer → Call V → S → Desk → Type 0
  Kept scheme desk c a d scheme' desk' =
      Whole scheme desk → Guaranteed meaning place dom (state scheme desk) c a d (state scheme' desk') × Whole scheme' desk'
