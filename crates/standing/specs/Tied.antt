-- The edges of the loop that stands.
use Rattle.std.specs.Prelude.{Bool, true, false, ◌&&◌, List, [], ◌∷◌, Some, None, Option, ◌==◌}
use Rattle.model.specs.declared.Edge.{Edge}
use Rattle.model.specs.Edges.{edges}
use Rattle.model.specs.Soundness.{hardware}
use Rattle.guarantee.specs.Calls.{Body}

abbrev pub edges_in : Body → List Edge
edges_in b = edges b.ops (hardware b.machine b.ops)

abbrev pub same_edge : Edge → Edge → Bool
same_edge d e = d.from == e.from && (d.to == e.to && (d.delay == e.delay && d.distance == e.distance))

unfoldable pub same_edges : List Edge → List Edge → Bool
same_edges [] [] = true
same_edges [] (e ∷ es) = false
same_edges (d ∷ ds) [] = false
same_edges (d ∷ ds) (e ∷ es) = same_edge d e && same_edges ds es

-- Where a loop stands, the list is that of its edges.
abbrev pub edges_tied : Option Body → List Edge → Bool
edges_tied None es = true
edges_tied (Some b) es = same_edges es (edges_in b)

-- The edges of the loop that stands; none without a loop.
abbrev pub edges_told : Option Body → List Edge
edges_told None = []
edges_told (Some b) = edges_in b
