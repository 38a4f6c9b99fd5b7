use Rattle.std.proofs.Common.{take}
use Rattle.engine_writes.specs.Files.{LandsListed}
use Rattle.engine_writes.proofs.landing.land_listed.Given as goal

abbrev pub invariant-loop-r : goal.invariant-loop-r
invariant-loop-r g l = LandsListed l.cycle l.waiting l.initial.statuses.status l.initial.values (take l.r-index l.list) l.statuses.status l.values
