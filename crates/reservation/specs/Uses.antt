-- The uses of one operation.
use Rattle.std.specs.Prelude.{◌≡◌, ℕ, zero, suc, ◌<◌, Bool, true, cond, nat_eq}
use Rattle.model.specs.Schedule.{uses}
use Rattle.search_laws.specs.Counts.{Has, over, over_in}
use Rattle.reservation.specs.Cells.{bookable}
use Rattle.reservation.specs.Views.{count, units_of}
use Rattle.reservation.specs.declared.table.ReservationTable.{ReservationTable}
use Rattle.reservation.specs.declared.uses.Uses.{Uses}

-- Those of class c for so many cycles from time t on, at interval k, which a table takes.
pub record UsesAt (k c n t : ℕ) (u : Uses) : Type 0 where
  pub taken : bookable c n t ≡ true
  pub interval : u.interval ≡ k
  pub class : u.class ≡ c
  pub time : u.time ≡ t
  pub busy : u.busy ≡ n

abbrev pub overfull_by : ReservationTable → Uses → ℕ → Bool
overfull_by t u = over u.interval u.class u.time u.busy (count t) (units_of t)

-- One of the cycles of the second is in a row that would be overfull.
abbrev pub overfull_among : ReservationTable → Uses → Uses → Bool
overfull_among t u v = over_in u.interval u.class u.time u.busy (count t) (units_of t) v.time v.busy

abbrev pub HasUses : ReservationTable → Uses → Type 0
HasUses t u = Has u.interval u.class u.time u.busy (count t)

-- The uses in a row.
abbrev pub uses_of : Uses → ℕ → ℕ
uses_of u = uses u.interval u.time u.busy

-- So many steps one after the other.
abbrev pub Repeated : (ℕ → ℕ → Type 0) → ℕ → ℕ → ℕ → Type 0
Repeated R zero a b = b ≡ a
Repeated R (suc n) a b = (m : ℕ) × Repeated R n a m × R m b

-- A step of the count for each use, and none of the others.
abbrev pub Stepped : (ℕ → ℕ → Type 0) → Uses → (ℕ → ℕ → ℕ) → (ℕ → ℕ → ℕ) → Type 0
Stepped R u before now = (c r : ℕ) → c < 8 → r < 256 → Repeated R (cond (nat_eq c u.class) (uses_of u r) 0) (before c r) (now c r)
