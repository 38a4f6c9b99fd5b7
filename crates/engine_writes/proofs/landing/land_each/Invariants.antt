use Rattle.engine_writes.specs.Files.{LandsBelow}
use Rattle.engine_writes.proofs.landing.land_each.Given as goal

abbrev pub invariant-loop-r : goal.invariant-loop-r
invariant-loop-r g l = LandsBelow l.cycle l.waiting l.initial.statuses.status l.initial.values l.r l.statuses.status l.values
