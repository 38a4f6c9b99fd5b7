use Rattle.std.proofs.Common.{◌≡◌, ℕ, length, get_or, take}
use Rattle.model.specs.Relaxation.{round}
use Rattle.graph_laws.specs.Trails.{value}
use Rattle.bounds.specs.Noted.{noted}
use Rattle.bounds.specs.Rounds.{Marked}
use Rattle.bounds.proofs.graph.Relaxation.round.Given as goal

abbrev pub invariant-loop-number : goal.invariant-loop-number
invariant-loop-number l =
    let es = l.self.graph.edges.now in
    let k : ℕ = l.self.interval in
    (length l.values ≡ 32) × (length l.marks ≡ 32) × ((u : ℕ) → get_or l.values u 0 ≡ round k (take l.number es) (value l.old) u) ×
    ((u : ℕ) → Marked es k (value l.old) (value l.values) u (noted l.marks u))
