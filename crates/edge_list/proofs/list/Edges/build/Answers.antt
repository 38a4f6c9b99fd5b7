use Rattle.std.proofs.Common.{length, vec_items, ◌++◌, ap, ◌∙◌, arith}
use Rattle.edge_list.specs.Lists.{memory_in}
use Rattle.edge_list.proofs.Whole.{parts_fit, listed}
use Rattle.edge_list.proofs.list.Edges.build.Goals as goal

pub push_operand_edges-requires : goal.push_operand_edges-requires
push_operand_edges-requires c =
    omega (arith, parts_fit c.args.machine.now c.args.l.now, c.clear.ensures.len, c.clear.ensures.capacity, c.args.self.now.room)

pub push_memory_edges-requires : goal.push_memory_edges-requires
push_memory_edges-requires c =
    let pushed = c.push_operand_edges.ensures in
    omega (arith, parts_fit c.args.machine.now c.args.l.now, c.clear.ensures.len, c.clear.ensures.capacity, c.args.self.now.room, pushed.len, pushed.capacity, ap (λ ops. length (memory_in ops)) c.operations.ensures.operations)

pub returns : goal.returns
returns c =
    listed c.args.machine.now c.args.l.now _ _ _ c.clear.ensures.items c.push_operand_edges.ensures.items
    (c.push_memory_edges.ensures.items ∙ ap (λ ops. vec_items c.push_operand_edges.new.list ++ memory_in ops) c.operations.ensures.operations)
