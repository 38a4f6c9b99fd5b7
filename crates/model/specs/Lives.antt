-- Tables of lives.
use Rattle.std.specs.Prelude.{ℕ, ◌+◌, ◌*◌, ◌<◌, ◌≤◌, List, length, slice_index_or}
pub use Rattle.model.specs.declared.Life.{Life}

-- The interval, and the life that each variable has in iteration 0. Variables are numbered from 0 by their definers.
pub record Table : Type 0 where
  pub interval : ℕ
  pub lives : List Life

abbrev pub no_life : Life
no_life = record { start = 0; end = 0 }

abbrev pub life : Table → ℕ → Life
life t v = slice_index_or t.lives v no_life

-- A life at interval k: it starts at 0 to 8 k - 1 and ends from its start to 4,095.
abbrev pub LifeWithin : ℕ → Life → Type 0
LifeWithin k l = (l.start < 8 * k) × (l.start ≤ l.end) × (l.end ≤ 4095)

-- The limits of a table: an interval from 1 to 256, at most 32 lives, each within its own.
pub record Limits (t : Table) : Type 0 where
  pub some : 1 ≤ t.interval
  pub most : t.interval ≤ 256
  pub few : length t.lives ≤ 32
  pub each : (v : ℕ) → v < length t.lives → LifeWithin t.interval (life t v)

-- The instance (v, i), the value of variable v in iteration i, lives in cycle c: its life is i intervals later.
pub record Alive (t : Table) (v i c : ℕ) : Type 0 where
  pub known : v < length t.lives
  pub begun : (life t v).start + i * t.interval ≤ c
  pub lasts : c ≤ (life t v).end + i * t.interval
