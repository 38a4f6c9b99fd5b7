use Rattle.std.proofs.Common.{length}
use Rattle.model.specs.Limits.{hardware}
use Rattle.model.specs.Minimum.{own_minimum}
use Rattle.graph_laws.specs.Trails.{Leads}
use Rattle.bounds.proofs.resource.resource_minimum.Given as goal

abbrev pub invariant-loop-class : goal.invariant-loop-class
invariant-loop-class l = Leads (own_minimum (hardware l.timings l.units) (length l.timings)) l.class l.best.interval l.best.class
