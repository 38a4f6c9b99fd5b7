-- What there is to a schedule, and the sequential one.
use Rattle.std.specs.Prelude.{◌≡◌, ℕ, ◌≤◌, cond, List, length, Some, None, Option, nat_lt, slice_index}
use Rattle.model.specs.Loop.{Loop, total}
use Rattle.model.specs.Limits.{timing, hardware}
use Rattle.model.specs.declared.Timing.{Timing}
use Rattle.model.specs.Schedule.{Schedule}
use Rattle.model.specs.Lives.{Limits}
use Rattle.model.specs.ScheduleLives.{lives_table}
use Rattle.registers.specs.Views.{table}
use Rattle.registers.specs.declared.lives.Lives.{Lives}
use Rattle.timing.specs.declared.Schedule.{Schedule as OwnSchedule}

-- The table of lives, on whatever units; there is none where it would be beyond the limits of a table.
abbrev pub LivesOf : Loop → List Timing → Schedule → Option Lives → Type 0
LivesOf ops us w None = (units : List ℕ) → Limits (lives_table ops (hardware us units) w) → ⊥
LivesOf ops us w (Some l) = (units : List ℕ) → table l ≡ lives_table ops (hardware us units) w

-- The sum of the latencies of the first n operations.
abbrev pub latencies : List Timing → ℕ → ℕ
latencies us = total (λ j. (timing us j).latency)

-- At most 32 operations, whose latencies add up to an interval.
abbrev pub Short : List Timing → Type 0
Short us = (length us ≤ 32) × (latencies us (length us) ≤ 256)

-- Each operation starts at the sum of the latencies before it, at the sum of all.
abbrev pub SequenceOf : List Timing → Option OwnSchedule → Type 0
SequenceOf us None = Short us → ⊥
SequenceOf us (Some s) =
    Short us × (s.interval ≡ latencies us (length us)) × ((j : ℕ) → slice_index s.times j ≡ cond (nat_lt j (length us)) (latencies us j) 0)
