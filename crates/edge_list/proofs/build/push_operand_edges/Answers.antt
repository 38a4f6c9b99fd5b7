use Rattle.std.proofs.Common.{◌≡◌, length, refl, sym, subst, arith}
use Rattle.model.specs.Loop.{operands}
use Rattle.model.specs.Edges.{each, operand_edges}
use Rattle.dependence.specs.Loops.{loop_seen}
use Rattle.edge_list.specs.Appended.{Appended, RoomFor}
use Rattle.edge_list.specs.Lists.{hardware_of, operands_of}
use Rattle.edge_list.proofs.Appending.{room_more, appended_more}
use Rattle.edge_list.proofs.Reading.{seen_count, op_at}
use Rattle.edge_list.proofs.build.push_operand_edges.Goals as goal

pub push_operands-requires : goal.push_operands-requires
push_operands-requires c =
    let l = c.args.l.now in
    let xs = c.operations-operation-items.result.now in
    let m = c.args.machine.now in
    let q = c.loop-q.q in
    subst (λ o. RoomFor (operand_edges (hardware_of m l) q (operands o)) c.loop-q.list) (op_at xs (loop_seen l) c.operations-operation-items.ensures.operations q _ _ c.loop-q-test.true refl)
    (room_more (operands_of m l) c.args.list.now c.loop-q.list q (length (loop_seen l)) c.loop-q.invariant (omega (arith, seen_count xs (loop_seen l) c.operations-operation-items.ensures.operations)) c.requires)

pub loop-q-preserved : goal.loop-q-preserved
loop-q-preserved c =
    let l = c.args.l.now in
    let xs = c.operations-operation-items.result.now in
    let m = c.args.machine.now in
    let q = c.loop-q.q in
    appended_more (operands_of m l) c.args.list.now c.loop-q.list q (length (loop_seen l)) c.loop-q.invariant c.push_operands.new.list
    (subst (λ o. Appended c.loop-q.list c.push_operands.new.list (operand_edges (hardware_of m l) q (operands o))) (sym (op_at xs (loop_seen l) c.operations-operation-items.ensures.operations q _ _ c.loop-q-test.true refl)) c.push_operands.ensures)

pub returns : goal.returns
returns c =
    let l = c.args.l.now in
    let xs = c.operations-operation-items.result.now in
    let m = c.args.machine.now in
    let end : c.loop-q.q ≡ length (loop_seen l) = omega (arith, seen_count xs (loop_seen l) c.operations-operation-items.ensures.operations, c.loop-q.auto.q-end, c.loop-q-test.false) in
    subst (λ n. Appended c.args.list.now c.loop-q.list (each (operands_of m l) n)) end c.loop-q.invariant
