-- What a reservation table holds, and what its methods answer.
use Rattle.std.specs.Prelude.{◌≡◌, ℕ, ◌<◌, ◌≤◌, Bool, true, false, not, ◌&&◌, List, length, slice_index}
use Rattle.model.specs.declared.Timing.{Timing}
use Rattle.reservation.specs.Cells.{cell, bookable}
use Rattle.search_laws.specs.Counts.{Added, Has, over_in}
use Rattle.reservation.specs.declared.table.ReservationTable.{ReservationTable}

-- the uses in a row of a class, and the units of a class
abbrev pub count : ReservationTable → ℕ → ℕ → ℕ
count t = cell t.rows.counts

abbrev pub units_of : ReservationTable → ℕ → ℕ
units_of t u = slice_index t.units u

-- At most eight classes of at most eight units.
pub record FewUnits (units : List ℕ) : Type 0 where
  pub classes : length units ≤ 8
  pub each : (u : ℕ) → slice_index units u ≤ 8

-- And an interval from 1 to 256.
pub record Possible (units : List ℕ) (interval : ℕ) : Type 0 where
  pub some : 1 ≤ interval
  pub most : interval ≤ 256
  pub few : FewUnits units

-- An empty table.
pub record Empty (units : List ℕ) (interval : ℕ) (t : ReservationTable) : Type 0 where
  pub at : t.interval ≡ interval
  pub has : (u : ℕ) → units_of t u ≡ slice_index units u
  pub none : (u r : ℕ) → u < 8 → r < 256 → count t u r ≡ 0

-- One of so many cycles from time s on falls in a row that an operation at time t would make overfull.
abbrev pub crowds_of : ReservationTable → Timing → ℕ → ℕ → ℕ → Bool
crowds_of t o time s cycles = over_in t.interval o.class time o.busy (count t) (units_of t) s cycles

-- The uses of an operation fit.
abbrev pub fits_of : ReservationTable → Timing → ℕ → Bool
fits_of t o time = bookable o.class o.busy time && not (crowds_of t o time time o.busy)

-- The same units and interval.
pub record Alike (before after : ReservationTable) : Type 0 where
  pub units : after.units ≡ before.units
  pub interval : after.interval ≡ before.interval

-- An operation was booked if it fits, and otherwise nothing changes.
abbrev pub Booked : ReservationTable → ReservationTable → Timing → ℕ → Bool → Type 0
Booked before after o time true =
    (fits_of before o time ≡ true) × Added before.interval o.class time o.busy (count before) (count after) × Alike before after
Booked before after o time false = (fits_of before o time ≡ false) × (after ≡ before)

-- An operation was released if its uses are there, and otherwise nothing changes.
abbrev pub Released : ReservationTable → ReservationTable → Timing → ℕ → Bool → Type 0
Released before after o time true =
    Has before.interval o.class time o.busy (count before) ×
    Added before.interval o.class time o.busy (count after) (count before) × Alike before after
Released before after o time false =
    ((bookable o.class o.busy time ≡ true) × Has before.interval o.class time o.busy (count before) → ⊥) × (after ≡ before)
