-- How the tables of a program follow the driving machine in cycle c.
use Rattle.std.specs.Prelude.{◌≡◌, ℕ, ◌+◌, ◌-◌, ◌<◌, ◌≤◌, Bool, true, cond, not, ◌&&◌, ◌||◌, ltb, List, Some, None, Option, ◌==◌, nat_le, nat_lt, slice_index_or}
use Rattle.model.specs.declared.Question.{Question}
use Rattle.model.specs.declared.Question.TheVariants.{UnitFree, OperandsLanded, IterationRuns, CellInMemory, ResultFree}
use Rattle.model.specs.declared.Status.{Status}
use Rattle.model.specs.declared.Status.TheVariants.{Never}
use Rattle.model.specs.Loop.{operands, makes, in_memory, stride_of, offset_of, cell}
use Rattle.model.specs.Issues.{Source, constant, register, Slot}
use Rattle.model.specs.Driving.{Examination, failed, all_below, all_of, awaits, has_landed, iteration_runs}

-- The table of statuses is that of the machine, and the units that are counted, of a class in a cycle, are so for 8 classes and cycles c to c + 7; nothing is taken behind them.
pub record Tracks (c : ℕ) (status : List Status) (taken : ℕ → ℕ → ℕ) (s : ℕ → Status) (t : ℕ → ℕ → ℕ) : Type 0 where
  pub statuses : (r : ℕ) → slice_index_or status r Never ≡ s r
  pub units : (u y : ℕ) → u < 8 → c ≤ y → y < c + 8 → taken u y ≡ t u y
  pub beyond : (u y : ℕ) → c + 8 ≤ y → t u y ≡ 0

-- What takes a unit of a class from cycle c on uses one of class u in cycle y, or not: 1 or 0.
abbrev pub use_for : ℕ → ℕ → ℕ → ℕ → ℕ → ℕ
use_for u y c class busy = cond (class == u && (nat_le c y && nat_lt y (c + busy))) 1 0

-- The questions, by the tables.
abbrev pub unit_free_by : (ℕ → ℕ → ℕ) → ℕ → ℕ → ℕ → ℕ → Bool
unit_free_by taken units c class busy = all_below (λ b. ltb (taken class (c + b)) units) busy

abbrev pub readable_by : List Status → Source → Bool
readable_by status (constant z) = true
readable_by status (register r) = has_landed (slice_index_or status r Never)

abbrev pub landed_by : List Status → Slot → Bool
landed_by status slot = all_of (readable_by status) (operands slot.operation)

abbrev pub cell_by : ℕ → ℕ → Slot → Bool
cell_by cells i slot = not (in_memory slot.operation) || nat_lt (cell (stride_of slot.operation) (offset_of slot.operation) i) cells

abbrev pub free_by : List Status → Slot → Bool
free_by status slot = not (makes slot.operation) || not (awaits (slice_index_or status slot.target Never))

-- The first question that is answered no.
abbrev pub verdict : Bool → Bool → Bool → Bool → Bool → Option Question
verdict unit landed iteration in_cells free =
    cond unit (cond landed (cond iteration (cond in_cells (cond free None (Some ResultFree)) (Some CellInMemory)) (Some IterationRuns)) (Some OperandsLanded)) (Some UnitFree)

abbrev pub verdict_by : List Status → (ℕ → ℕ → ℕ) → (ℕ → ℕ) → ℕ → ℕ → ℕ → ℕ → Slot → Option Question
verdict_by status taken units trips cells p c slot =
    verdict (unit_free_by taken (units slot.class) c slot.class slot.busy) (landed_by status slot) (iteration_runs p trips slot)
    (cell_by cells (p - slot.stage) slot) (free_by status slot)

-- The examination goes on, or ends with a no about slot n.
abbrev pub judged : Option Question → ℕ → Examination → Examination
judged None n rest = rest
judged (Some q) n rest = failed q n
