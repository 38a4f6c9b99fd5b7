use Rattle.std.proofs.Common.{◌≡◌, ℕ, ◌≤◌, cond, ltb, length, get_or}
use Rattle.lives.specs.Schedules.{latencies}
use Rattle.lives.proofs.start.in_sequence.Given as goal

abbrev pub invariant-loop-j : goal.invariant-loop-j
invariant-loop-j l =
    (length l.times ≡ 32) × (l.interval ≤ 256) × (l.interval ≡ latencies l.timings l.j)
    × ((q : ℕ) → get_or l.times q 0 ≡ cond (ltb q l.j) (latencies l.timings q) 0)
