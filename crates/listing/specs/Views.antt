-- The slots and the loop of the code as the definitions have them.
use Rattle.std.specs.Prelude.{ℕ, ◌<◌}
use Rattle.model.specs.Loop as loops
use Rattle.model.specs.Schedule.{Schedule}
use Rattle.model.specs.Listing as listings
use Rattle.model.specs.Listing.{slot_with}
use Rattle.dependence.specs.declared.operation.Operand.{Operand}
use Rattle.dependence.specs.declared.operation.Operand.TheVariants.{Literal, Variable}
use Rattle.few.specs.Held.{held}
use Rattle.timing.specs.Seen.{schedule_seen}
use Rattle.code.specs.Seen.{code_operation_seen}
use Rattle.listing.specs.declared.slot.Slot.{Slot}
use Rattle.listing.specs.declared.body.Body.{Body}
use Rattle.listing.specs.Placed.{operations_placed}

abbrev pub slot_seen : Slot → listings.Slot
slot_seen s = slot_with s.part s.pass s.row s.issue.stage s.issue.result (code_operation_seen s.issue.operation)

abbrev pub loop_of : {S : Type 0} → Body S → loops.Loop
loop_of b = operations_placed (held b.placed)

abbrev pub schedule_of : {S : Type 0} → Body S → Schedule
schedule_of b = schedule_seen b.schedule

-- An operand names one of the first n operations.
abbrev pub KnownOperand : ℕ → Operand → Type 0
KnownOperand n (Literal z) = Unit {0}
KnownOperand n (Variable p d) = p < n
