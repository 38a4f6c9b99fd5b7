use Rattle.std.proofs.Common.{◌++◌, sym, subst}
use Rattle.std.proofs.lemmas.List.{append-nil}
use Rattle.model.specs.Loop.{operands}
use Rattle.model.specs.Edges.{operand_edge, operand_edges}
use Rattle.dependence.specs.Operations.{operand_seen, operation_seen}
use Rattle.edge_list.specs.Appended.{Appended}
use Rattle.edge_list.specs.Lists.{hardware_of}
use Rattle.edge_list.proofs.Appending.{appended_then}
use Rattle.edge_list.proofs.push.push_operands.Goals as goal

pub returns-in-Binary : goal.returns-in-Binary
returns-in-Binary c =
    let hw = hardware_of c.args.machine.now c.args.l.now in
    let q = c.args.reader in
    let left = operand_edge hw q (operand_seen c.in-Binary.left) in
    let right = operand_edge hw q (operand_seen c.in-Binary.right) in
    let start = c.args.list.now in
    let end = c.push_operand-in-Binary.new.list in
    let both = appended_then start c.push_operand.new.list end left right c.push_operand.ensures c.push_operand-in-Binary.ensures in
    subst (λ o. Appended start end (operand_edges hw q (operands (operation_seen o)))) (sym c.in-Binary.is)
    (subst (λ r. Appended start end (left ++ r)) (sym (append-nil right)) both)
