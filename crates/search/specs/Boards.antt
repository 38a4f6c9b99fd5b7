-- A board, and a search as it stands.
use Rattle.std.specs.Prelude.{◌≡◌, ℕ, List, Option, length, slice_index}
use Rattle.std.specs.Option.{unwrap_or}
use Rattle.model.specs.Limits.{timing}
use Rattle.model.specs.Loop.{Hardware}
use Rattle.model.specs.Search as model
use Rattle.model.specs.Search.{Times, State, first, fallback}
use Rattle.model.specs.declared.Timing.{Timing}
use Rattle.search_laws.specs.Counts.{Low}
use Rattle.search_laws.specs.Weights.{early_by}
use Rattle.reservation.specs.Times.{times_of}
use Rattle.reservation.specs.Views.{Alike, fits_of}
use Rattle.reservation.specs.declared.table.ReservationTable.{ReservationTable}
use Rattle.search.specs.Views.{weights_of}
use Rattle.search.specs.Tables.{hw_of}
use Rattle.search.specs.declared.task.Task.{Task}
use Rattle.search.specs.declared.board.Board.{Board}
use Rattle.search.specs.declared.state.Progress.{Progress}

abbrev pub timings_of : Board → List Timing
timings_of b = b.task.now.timings.now

abbrev pub size : Board → ℕ
size b = length (timings_of b)

abbrev pub hw : Board → Hardware
hw b = hw_of (timings_of b) b.table

abbrev pub height : Task → ℕ → ℕ
height t j = slice_index t.heights j

abbrev pub placed_on : Board → Times
placed_on b = times_of b.time

-- A board with this task, and with the units and the interval of a table.
pub record Keeps (k : Task) (t : ReservationTable) (b : Board) : Type 0 where
  pub task : b.task.now ≡ k
  pub table : Alike t b.table

abbrev pub Same : Board → Board → Type 0
Same before after = Keeps before.task.now before.table after

abbrev pub state_of : Progress → State
state_of s = record { time = placed_on s.board; last = times_of s.last; taken = s.taken }

-- The early time of an operation, and the time that it takes, by what the board holds.
abbrev pub early_on : Board → ℕ → ℕ
early_on b j = early_by (weights_of b.task.now.weights.now) (placed_on b) j (size b)

abbrev pub slot_on : Board → ℕ → Option ℕ → ℕ
slot_on b j last = unwrap_or (first (fits_of b.table (timing (timings_of b) j)) (early_on b j) b.table.interval) (fallback last (early_on b j))

-- A step of the model, and an operation placed, on a board's task.
abbrev pub step_on : Board → State → State
step_on b = model.step b.task.now.edges.now (hw b) (size b) (height b.task.now) b.table.interval

abbrev pub placed_by : Board → State → ℕ → ℕ → State
placed_by b = model.placed b.task.now.edges.now (hw b) (size b) b.table.interval

abbrev pub LowIn : Progress → Type 0
LowIn s = Low (placed_on s.board) (times_of s.last) s.taken s.board.table.interval
