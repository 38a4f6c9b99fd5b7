-- What rounds of relaxation leave in the code's arrays.
use Rattle.std.specs.Prelude.{◌≡◌, ℕ, suc, ◌-◌, ◌<◌, ◌≤◌, List, [], length, Some, None, Option, Ok, Err, Result, slice_index, slice_index_or}
use Rattle.model.specs.declared.Edge.{Edge}
use Rattle.model.specs.Minimum.{NoneAbove, Standing, RecurrenceMinimum, IsHeight}
use Rattle.model.specs.Relaxation.{round, rounds}
use Rattle.graph_laws.specs.Trails.{value, Offers}
use Rattle.bounds.specs.declared.relax.FirstSettled.{FirstSettled}
use Rattle.bounds.specs.declared.row.Row.{Row}
use Rattle.bounds.specs.Noted.{noted}

-- Values that relaxation can reach in 32 rounds.
abbrev pub Low : List ℕ → Type 0
Low hs = (u : ℕ) → slice_index hs u ≤ 256

-- A round from h to g at u changed nothing, or took what the edge of this number offers.
abbrev pub Marked : List Edge → ℕ → (ℕ → ℕ) → (ℕ → ℕ) → ℕ → Option ℕ → Type 0
Marked es k h g u None = g u ≡ h u
Marked es k h g u (Some x) = Offers es k h u (g u) x × (h u < g u)

-- One round from the old values: the new ones, and the edges that it took.
pub record RoundOf (es : List Edge) (k : ℕ) (old : List ℕ) (row : Row) : Type 0 where
  pub values : (u : ℕ) → slice_index row.values u ≡ round k es (value old) u
  pub marks : (u : ℕ) → Marked es k (value old) (value row.values) u (noted row.marks u)

-- The marks of each of the first n rounds.
pub record Traced (es : List Edge) (k n : ℕ) (rows : List (List (Option ℕ))) : Type 0 where
  pub many : length rows ≡ n
  pub each : (r : ℕ) → r < n → (u : ℕ) → Marked es k (rounds k es r) (rounds k es (suc r)) u (noted (slice_index_or rows r []) u)

-- Round n still raised u.
abbrev pub StillRises : List Edge → ℕ → ℕ → ℕ → Type 0
StillRises es k n u = (u < 32) × (rounds k es (n - 1) u < rounds k es n u)

-- The heights, where no circuit is above k; or an operation that round n still raised.
abbrev pub Settles : List Edge → ℕ → ℕ → Result (List ℕ) ℕ → Type 0
Settles es k n (Ok hs) = NoneAbove es k × ((u : ℕ) → IsHeight es k u (value hs u))
Settles es k n (Err u) = StillRises es k n u

-- At the interval before, if it is not 0, round n still raised this operation.
abbrev pub Rose : List Edge → ℕ → ℕ → Option ℕ → Type 0
Rose es k n None = k ≤ 1
Rose es k n (Some u) = (1 < k) × StillRises es (k - 1) n u

-- The least interval with no circuit above it, if there is one.
abbrev pub FirstOf : List Edge → ℕ → Option FirstSettled → Type 0
FirstOf es n None = Standing es
FirstOf es n (Some f) = RecurrenceMinimum es f.interval × (f.interval ≤ 256) × Rose es f.interval n f.rising
