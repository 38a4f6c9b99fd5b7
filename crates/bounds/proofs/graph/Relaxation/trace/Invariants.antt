use Rattle.std.proofs.Common.{◌≡◌, ℕ, get_or}
use Rattle.few.specs.Held.{held}
use Rattle.model.specs.Relaxation.{rounds}
use Rattle.bounds.specs.Rounds.{Traced}
use Rattle.bounds.proofs.graph.Relaxation.trace.Given as goal

abbrev pub invariant-loop : goal.invariant-loop
invariant-loop l =
    let es = l.self.graph.edges.now in
    let k : ℕ = l.self.interval in
    ((u : ℕ) → get_or l.old u 0 ≡ rounds k es l.counter u) × Traced es k l.counter (held l.rows)
