-- A reservation table and a time table of operations.
use Rattle.std.specs.Prelude.{List, length}
use Rattle.model.specs.Loop.{Hardware}
use Rattle.model.specs.Limits.{hardware}
use Rattle.model.specs.declared.Timing.{Timing}
use Rattle.search_laws.specs.Counts.{Tied}
use Rattle.search_laws.specs.Bounded.{Roomy}
use Rattle.reservation.specs.Times.{times_of}
use Rattle.reservation.specs.Views.{count}
use Rattle.reservation.specs.declared.table.ReservationTable.{ReservationTable}
use Rattle.reservation.specs.declared.time_table.TimeTable.{TimeTable}

-- The machine with the units of a table.
abbrev pub hw_of : List Timing → ReservationTable → Hardware
hw_of us t = hardware us t.units

-- The table counts the operations that are placed.
abbrev pub Sound : List Timing → ReservationTable → TimeTable → Type 0
Sound us t s = Tied (hw_of us t) (length us) t.interval (times_of s) (count t)

-- An operation alone fits.
abbrev pub AloneFits : List Timing → ReservationTable → Type 0
AloneFits us t = Roomy (hw_of us t) (length us) t.interval
