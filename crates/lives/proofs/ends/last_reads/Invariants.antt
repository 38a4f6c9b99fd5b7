use Rattle.std.proofs.Common.{◌≡◌, ℕ, length, get_or}
use Rattle.model.specs.ScheduleLives.{last_read}
use Rattle.dependence.specs.Loops.{loop_seen}
use Rattle.timing.specs.Seen.{schedule_seen}
use Rattle.lives.proofs.ends.last_reads.Given as goal

abbrev pub invariant-loop-operation : goal.invariant-loop-operation
invariant-loop-operation l = (v : ℕ) → get_or l.ends v 0 ≡ last_read (loop_seen l.l) (schedule_seen l.schedule) v (length l.yielded)
