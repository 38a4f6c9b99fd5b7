-- Sums of latencies, and stages, operation by operation.
use Rattle.std.proofs.Common.{◌≡◌, ℕ, ◌+◌, max, refl, add-one}
use Rattle.model.specs.Loop.{total}
use Rattle.model.specs.Schedule.{Schedule, stage, stages}

pub total_more : (f : ℕ → ℕ) (n : ℕ) → total f (n + 1) ≡ total f n + f n
total_more f n = rw add-one refl

pub stages_more : (w : Schedule) (n : ℕ) → stages w (n + 1) ≡ max (stages w n) (stage w n + 1)
stages_more w n = rw add-one refl
