-- The operations that a search takes.
use Rattle.std.specs.Prelude.{ℕ, ◌<◌, ◌≤◌, List, length}
use Rattle.model.specs.declared.Timing.{Timing}
use Rattle.model.specs.Limits.{timing}

-- At most 32 operations, each of one of eight classes and busy for at most eight cycles.
pub record Fitting (us : List Timing) : Type 0 where
  pub few : length us ≤ 32
  pub class : (j : ℕ) → j < length us → (timing us j).class < 8
  pub busy : (j : ℕ) → j < length us → (timing us j).busy ≤ 8
