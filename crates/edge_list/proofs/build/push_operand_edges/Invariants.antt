use Rattle.model.specs.Edges.{each}
use Rattle.edge_list.specs.Appended.{Appended}
use Rattle.edge_list.specs.Lists.{operands_of}
use Rattle.edge_list.proofs.build.push_operand_edges.Given as goal

abbrev pub invariant-loop-q : goal.invariant-loop-q
invariant-loop-q l = Appended l.initial.list l.list (each (operands_of l.machine l.l) l.q)
