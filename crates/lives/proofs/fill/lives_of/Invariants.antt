use Rattle.std.proofs.Common.{◌≡◌, []}
use Rattle.model.specs.Limits.{hardware}
use Rattle.model.specs.ScheduleLives.{lives_of}
use Rattle.registers.specs.Views.{table}
use Rattle.dependence.specs.Loops.{loop_seen}
use Rattle.timing.specs.Seen.{schedule_seen}
use Rattle.lives.proofs.fill.lives_of.Given as goal

abbrev pub invariant-loop-j : goal.invariant-loop-j
invariant-loop-j l =
    table l.lives ≡ record { interval = l.schedule.interval; lives = lives_of (loop_seen l.l) (hardware l.timings []) (schedule_seen l.schedule) l.j }
