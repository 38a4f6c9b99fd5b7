-- When an operation reads.
use Rattle.std.specs.Prelude.{◌≡◌, ℕ, ◌+◌, ◌*◌, ◌<◌, ◌≤◌, max, cond, List, ◌==◌, slice_index}
use Rattle.model.specs.Loop.{Operand, literal, variable, Operation}
use Rattle.model.specs.ScheduleLives.{greatest}

-- By this operand, of an operation at a time, what operation v made in iteration 0.
abbrev pub read_by : ℕ → ℕ → ℕ → Operand → ℕ
read_by time k v (literal z) = 0
read_by time k v (variable p d) = cond (p == v) (time + d * k) 0

-- An operand that names one of 32 operations, at most seven iterations back.
abbrev pub Near : Operand → Type 0
Near (literal z) = Unit {0}
Near (variable p d) = (p < 32) × (d ≤ 7)

-- The second ends are the first, or later where an operand, or an operation, reads later.
abbrev pub Noted : ℕ → ℕ → Operand → List ℕ → List ℕ → Type 0
Noted time k a before after = (v : ℕ) → slice_index after v ≡ max (slice_index before v) (read_by time k v a)

abbrev pub NotedAll : ℕ → ℕ → Operation Operand → List ℕ → List ℕ → Type 0
NotedAll time k o before after = (v : ℕ) → slice_index after v ≡ max (slice_index before v) (greatest (read_by time k v) o)
