use Rattle.std.proofs.Common.{◌≡◌, ◌+◌, length}
use Rattle.bounds.specs.Passing.{Passed}
use Rattle.bounds.proofs.graph.Graph.round_trip.Given as goal

abbrev pub invariant-loop-place : goal.invariant-loop-place
invariant-loop-place l = (length l.passed ≡ 32) × Passed l.self.edges.now l.start l.walk l.passed (l.place + 1)
