use Rattle.std.proofs.Common.{length}
use Rattle.few.specs.Held.{held}
use Rattle.timing.specs.Seen.{schedule_seen}
use Rattle.dependence.specs.Loops.{loop_seen}
use Rattle.listing.proofs.Bodies.{SoFar}
use Rattle.listing.proofs.preparing.place_all.Given as goal

abbrev pub invariant-loop-operation : goal.invariant-loop-operation
invariant-loop-operation l = SoFar (loop_seen l.source) (schedule_seen l.schedule) (length l.yielded) l.variable (held l.all)
