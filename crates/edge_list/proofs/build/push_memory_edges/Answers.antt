use Rattle.std.proofs.Common.{◌≡◌, length, subst, refl, arith}
use Rattle.model.specs.Edges.{each}
use Rattle.dependence.specs.Operations.{operations_seen}
use Rattle.edge_list.specs.Appended.{Appended}
use Rattle.edge_list.specs.Lists.{row_in}
use Rattle.edge_list.proofs.Appending.{room_more, appended_more}
use Rattle.edge_list.proofs.Reading.{seen_count}
use Rattle.edge_list.proofs.build.push_memory_edges.Goals as goal

pub push_row-requires-clause-room : goal.push_row-requires-clause-room
push_row-requires-clause-room c =
    let ops = operations_seen c.args.operations.now in
    room_more (row_in ops) c.args.list.now c.loop-p.list c.loop-p.p (length ops) c.loop-p.invariant (omega (arith, seen_count c.args.operations.now ops refl, c.loop-p-test.true)) c.requires

pub loop-p-preserved : goal.loop-p-preserved
loop-p-preserved c =
    let ops = operations_seen c.args.operations.now in
    appended_more (row_in ops) c.args.list.now c.loop-p.list c.loop-p.p (length ops) c.loop-p.invariant c.push_row.new.list c.push_row.ensures

pub returns : goal.returns
returns c =
    let ops = operations_seen c.args.operations.now in
    let end : c.loop-p.p ≡ length ops = omega (arith, seen_count c.args.operations.now ops refl, c.loop-p.auto.p-end, c.loop-p-test.false) in
    subst (λ n. Appended c.args.list.now c.loop-p.list (each (row_in ops) n)) end c.loop-p.invariant
