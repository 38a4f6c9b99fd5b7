-- The slots and the rows of a body, as the definitions have them.
use Rattle.std.specs.Prelude.{ℕ, ◌+◌, ◌%◌, cond, List, Some, None, Option}
use Rattle.model.specs.declared.Part.{Part}
use Rattle.model.specs.Edges.{each}
use Rattle.model.specs.Loop.{Operand, on_operands, makes}
use Rattle.model.specs.Codes.{CodeSource}
use Rattle.model.specs.Schemes.{Meaning}
use Rattle.model.specs.Listing as listings
use Rattle.model.specs.Listing.{slot_with, operand_in, row_of, rows_of_pass, rows_of}
use Rattle.dependence.specs.Operations.{operation_seen}
use Rattle.listing.specs.declared.body.Body.{Body}
use Rattle.listing.specs.declared.place.Place.{Place}
use Rattle.listing.specs.declared.placed.Placed.{Placed}
use Rattle.listing.specs.Views.{loop_of, schedule_of}

-- Where an operand of what stands in a stage comes from.
abbrev pub operand_of : {S : Type 0} → Body S → (S → Meaning) → ℕ → ℕ → Operand → CodeSource
operand_of b m pass stage = operand_in (loop_of b) (schedule_of b) (m b.scheme.now).name b.turns pass stage

-- The name of what an operation makes.
abbrev pub result_of : {S : Type 0} → Body S → (S → Meaning) → ℕ → Placed → Option ℕ
result_of b m pass p = cond (makes (operation_seen p.operation)) (Some ((m b.scheme.now).name p.variable (pass % b.turns) p.stage)) None

-- An operation in its place, as it is written.
abbrev pub slot_of : {S : Type 0} → Body S → (S → Meaning) → Place → Placed → listings.Slot
slot_of b m place p =
    slot_with place.part place.written p.row p.stage (result_of b m place.pass p)
    (on_operands (operand_of b m place.pass p.stage) (operation_seen p.operation))

-- A row of a pass.
abbrev pub slots_of_row : {S : Type 0} → Body S → (S → Meaning) → Place → ℕ → List listings.Slot
slots_of_row b m place row = row_of (loop_of b) (schedule_of b) (m b.scheme.now).name b.turns b.trips place.part place.written place.pass row

-- The rows of a pass; of so many passes of a part, the first of them for pass `first` of the run; and of all parts.
abbrev pub rows_of_place : {S : Type 0} → Body S → (S → Meaning) → Place → List (List listings.Slot)
rows_of_place b m place = rows_of_pass (loop_of b) (schedule_of b) (m b.scheme.now).name b.turns b.trips place.part place.written place.pass

abbrev pub rows_of_passes : {S : Type 0} → Body S → (S → Meaning) → Part → ℕ → ℕ → List (List listings.Slot)
rows_of_passes b m part first passes = each (λ q. rows_of_pass (loop_of b) (schedule_of b) (m b.scheme.now).name b.turns b.trips part q (first + q)) passes

abbrev pub all_rows : {S : Type 0} → Body S → (S → Meaning) → List (List listings.Slot)
all_rows b m = rows_of (loop_of b) (schedule_of b) (m b.scheme.now).name b.turns b.trips
