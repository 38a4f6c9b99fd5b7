-- A time table as the times of the operations that are placed.
use Rattle.std.specs.Prelude.{◌≡◌, ℕ, None, Option, slice_index_or, slice_set}
use Rattle.model.specs.Search.{Times}
use Rattle.reservation.specs.declared.time_table.TimeTable.{TimeTable}

abbrev pub times_of : TimeTable → Times
times_of t q = slice_index_or t.times q None

-- The second table is the first with another entry for one operation, if there is a place for it.
abbrev pub Replaced : ℕ → Option ℕ → TimeTable → TimeTable → Type 0
Replaced j o before after = after.times ≡ slice_set before.times j o
