-- Schedules: what it is for times to be one.
use Rattle.std.specs.Prelude.{ℕ, zero, suc, ◌+◌, ◌*◌, ◌/◌, ◌%◌, ◌<◌, ◌≤◌, max, cond, length, ◌==◌}
use Rattle.std.specs.List.{AllByRecursion}
use Rattle.model.specs.Loop.{Loop, Hardware, total}
use Rattle.model.specs.Edges.{EdgeMet, edges}

-- The interval, and the time of each operation in iteration 0.
pub record Schedule : Type 0 where
  pub interval : ℕ
  pub time : ℕ → ℕ

abbrev pub stage : Schedule → ℕ → ℕ
stage w j = w.time j / w.interval

abbrev pub row : Schedule → ℕ → ℕ
row w j = w.time j % w.interval

-- The number of stages of the first n operations: the greatest stage + 1.
abbrev pub stages : Schedule → ℕ → ℕ
stages w zero = 0
stages w (suc n) = max (stages w n) (stage w n + 1)

-- The uses that an operation issued at time t has in row r: it has one in each of its busy cycles.
abbrev pub uses : ℕ → ℕ → ℕ → ℕ → ℕ
uses k t busy r = total (λ b. cond ((t + b) % k == r) 1 0) busy

-- The uses of class u in row r.
abbrev pub row_uses : Loop → Hardware → Schedule → ℕ → ℕ → ℕ
row_uses ops hw w u r = total (λ j. cond (hw.class j == u) (uses w.interval (w.time j) (hw.busy j) r) 0) (length ops)

-- In no row has a class more uses than units.
abbrev pub RowsFit : Loop → Hardware → Schedule → Type 0
RowsFit ops hw w = (u r : ℕ) → r < w.interval → row_uses ops hw w u r ≤ hw.units u

-- The times meet every edge, and no row has more uses of a class than units.
pub record IsSchedule (ops : Loop) (hw : Hardware) (w : Schedule) : Type 0 where
  pub positive : 0 < w.interval
  pub edges_met : AllByRecursion (EdgeMet w.time w.interval) (edges ops hw)
  pub rows_fit : RowsFit ops hw w

-- At most eight stages.
abbrev pub FewStages : Loop → Schedule → Type 0
FewStages ops w = (j : ℕ) → j < length ops → w.time j < 8 * w.interval

-- The sequential schedule: each operation starts at the sum of the latencies before it, at the sum of all.
abbrev pub sequential : Loop → Hardware → Schedule
sequential ops hw = record { interval = total hw.latency (length ops); time = total hw.latency }
