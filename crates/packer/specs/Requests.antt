-- Calls and what comes of them, as the definitions have them.
use Rattle.std.specs.Prelude.{vec_items}
use Rattle.guarantee.specs.Calls as calls
use Rattle.guarantee.specs.Calls.{Answer, accepted, planned, expanded, ran, refused}
use Rattle.guarantee.specs.Lists as lists
use Rattle.standing.specs.Faults.{fault}
use Rattle.standing.specs.Seen.{planned_seen}
use Rattle.packer_laws.specs.States.{buffers}
use Rattle.packer.specs.declared.request.Call.{Call}
use Rattle.packer.specs.declared.request.Call.TheVariants.{Machine, Loop, Plan, Expand, Run}
use Rattle.packer.specs.declared.request.Outcome.{Outcome}
use Rattle.packer.specs.declared.request.Outcome.TheVariants.{Accepted, Planned, Expanded, Ran, Refused}
use Rattle.packer.specs.declared.request.Entry.{Entry}
use Rattle.packer.specs.declared.request.Entry.TheVariants.{Asked, Answered}

abbrev pub call_seen : {V : Type 0} → Call V → calls.Call V
call_seen (Machine text) = calls.machine (vec_items text)
call_seen (Loop text) = calls.loop (vec_items text)
call_seen Plan = calls.plan
call_seen (Expand trips) = calls.expand trips
call_seen (Run b) = calls.run (buffers (vec_items b.memory) (vec_items b.values) (vec_items b.waiting))

abbrev pub outcome_seen : Outcome → Answer
outcome_seen Accepted = accepted
outcome_seen (Planned p) = planned (planned_seen p)
outcome_seen (Expanded parts) = expanded parts
outcome_seen (Ran cycles) = ran cycles
outcome_seen (Refused f) = refused (fault f)

abbrev pub entry_seen : {V : Type 0} → Entry V → lists.Entry V
entry_seen (Asked c) = lists.asked (call_seen c)
entry_seen (Answered c o) = lists.answered (call_seen c) (outcome_seen o)
