-- The rows of the code as the machine sees them.
use Rattle.std.specs.Prelude.{ℕ, List, Some, None, Option, Ok, Err, Result, slice_index}
use Rattle.model.specs.declared.Question.{Question}
use Rattle.model.specs.declared.Timing.{Timing}
use Rattle.model.specs.Issues.{Slot}
use Rattle.model.specs.Driving.{Examination, passed, failed}
use Rattle.model.specs.Codes.{CodeSlot, slot_in}
use Rattle.engine_laws.specs.Parts.{turned}
use Rattle.engine_slots.specs.declared.slot.Denial.{Denial}

-- the slot that issues in pass p from a place
abbrev pub slot_at : (ℕ → ℕ → ℕ) → List Timing → (ℕ → ℕ → Option CodeSlot) → ℕ → ℕ → Option Slot
slot_at resolve timings issued p x = turned (slot_in resolve timings p) (issued p x)

abbrev pub units_of : List ℕ → ℕ → ℕ
units_of units u = slice_index units u

abbrev pub question_answered : Option Question → Result (Unit {0}) Question
question_answered None = Ok tt
question_answered (Some q) = Err q

abbrev pub answered : Result (Unit {0}) Denial → Examination
answered (Ok u) = passed
answered (Err d) = failed d.question d.slot
