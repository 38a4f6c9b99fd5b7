use Rattle.std.proofs.Common.{◌≡◌, ℕ, ◌-◌, get_or}
use Rattle.model.specs.Relaxation.{rounds}
use Rattle.bounds.proofs.graph.Relaxation.settle.Given as goal

abbrev pub invariant-loop : goal.invariant-loop
invariant-loop l = (u : ℕ) → get_or l.held u 0 ≡ rounds l.self.interval l.self.graph.edges.now (l.counter - 1) u
