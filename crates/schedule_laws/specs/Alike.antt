-- Schedules that are alike in what a loop sees of them.
use Rattle.std.specs.Prelude.{◌≡◌, ℕ, ◌<◌, ◌≤◌, List, length}
use Rattle.model.specs.declared.Edge.{Edge}
use Rattle.model.specs.Loop.{Loop, Hardware}
use Rattle.model.specs.Schedule.{Schedule}
use Rattle.model.specs.Lives.{Table}
use Rattle.model.specs.Plan.{planned, IsPlan}

-- The same interval, and the same times of the first n operations.
pub record Alike (n : ℕ) (v w : Schedule) : Type 0 where
  pub interval : v.interval ≡ w.interval
  pub times : (j : ℕ) → j < n → v.time j ≡ w.time j

-- What is told of the schedule w of a loop of n operations: the interval, and the times of these; behind them the time 0.
pub record Tells (n : ℕ) (v w : Schedule) : Type 0 where
  pub alike : Alike n v w
  pub rest : (j : ℕ) → n ≤ j → v.time j ≡ 0

-- The plan is a schedule of which this one tells, after so many steps.
pub record IsPlanned (ops : Loop) (es : List Edge) (hw : Hardware) (classes : ℕ) (need : Table → ℕ) (file lowest : ℕ) (v : Schedule) (steps : ℕ) : Type 0 where
  pub schedule : Schedule
  pub tells : Tells (length ops) v schedule
  pub is : IsPlan ops es hw classes need file lowest (planned schedule steps)
