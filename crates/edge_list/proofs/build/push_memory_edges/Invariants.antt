use Rattle.model.specs.Edges.{each}
use Rattle.dependence.specs.Operations.{operations_seen}
use Rattle.edge_list.specs.Appended.{Appended}
use Rattle.edge_list.specs.Lists.{row_in}
use Rattle.edge_list.proofs.build.push_memory_edges.Given as goal

abbrev pub invariant-loop-p : goal.invariant-loop-p
invariant-loop-p l = Appended l.initial.list l.list (each (row_in (operations_seen l.operations)) l.p)
