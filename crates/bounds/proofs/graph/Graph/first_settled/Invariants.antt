use Rattle.std.proofs.Common.{ℕ, ◌<◌, ◌≤◌}
use Rattle.model.specs.Minimum.{NoneAbove}
use Rattle.bounds.specs.Rounds.{Rose}
use Rattle.bounds.proofs.graph.Graph.first_settled.Given as goal

abbrev pub invariant-loop-interval : goal.invariant-loop-interval
invariant-loop-interval l =
    ((m : ℕ) → 1 ≤ m → m < l.interval → NoneAbove l.self.edges.now m → ⊥) × Rose l.self.edges.now l.interval l.self.count l.rising
