use Rattle.std.proofs.Common.{ℕ, ◌<◌, ◌≤◌, length, get_or}
use Rattle.model.specs.Walks.{edge}
use Rattle.bounds.proofs.graph.Graph.lowest.Given as goal

abbrev pub invariant-loop-place : goal.invariant-loop-place
invariant-loop-place l =
    let from : ℕ → ℕ = λ t. (edge l.self.edges.now (get_or l.round_trip t 0)).from in
    (l.best < length l.round_trip) × ((t : ℕ) → t < l.place → from l.best ≤ from t)
