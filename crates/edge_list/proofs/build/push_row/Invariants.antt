use Rattle.std.proofs.Common.{◌+◌}
use Rattle.model.specs.Edges.{each, between}
use Rattle.dependence.specs.Operations.{operations_seen}
use Rattle.edge_list.specs.Appended.{Appended}
use Rattle.edge_list.proofs.build.push_row.Given as goal

abbrev pub invariant-loop-past : goal.invariant-loop-past
invariant-loop-past l = Appended l.initial.list l.list (each (λ q. between (operations_seen l.operations) l.p q) (l.next + l.past))
