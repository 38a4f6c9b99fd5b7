-- A graph is made of edges that are within the limits, and of no others.
use Rattle.std.specs.Prelude.{◌≡◌, ℕ, List, Some, None, Option}
use Rattle.model.specs.declared.Edge.{Edge}
use Rattle.model.specs.Limits.{GraphFits}
use Rattle.bounds.specs.declared.graph.Graph.{Graph}

abbrev pub GraphOf : List Edge → ℕ → Option Graph → Type 0
GraphOf es n None = GraphFits n es → ⊥
GraphOf es n (Some g) = (g.edges.now ≡ es) × (g.count ≡ n)
