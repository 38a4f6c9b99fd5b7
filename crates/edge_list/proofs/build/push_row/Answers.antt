use Rattle.std.proofs.Common.{Global, refl, arith, rules}
use Rattle.dependence.specs.Operations.{operations_seen}
use Rattle.edge_list.proofs.Rows.{row_none, row_room, row_more, row_end}
use Rattle.edge_list.proofs.build.push_row.Goals as goal

pub loop-past-init : goal.loop-past-init
loop-past-init c = search (rules, row_none {Z = Global} (operations_seen c.args.operations.now) c.args.p)

pub push_between-requires : goal.push_between-requires
push_between-requires c =
    row_room c.args.operations.now c.args.p _ c.loop-past.past c.args.list.now c.loop-past.list c.loop-past.invariant
    c.args.first.now _ _ _ c.requires.inside c.requires.first c.loop-past-test.true refl (omega arith) c.requires.room

pub loop-past-preserved : goal.loop-past-preserved
loop-past-preserved c =
    row_more c.args.operations.now c.args.p _ c.loop-past.past c.args.list.now c.loop-past.list c.loop-past.invariant
    c.args.first.now _ _ _ c.requires.inside c.requires.first c.loop-past-test.true refl (omega arith) c.push_between.new.list c.push_between.ensures

pub returns : goal.returns
returns c =
    row_end c.args.operations.now c.args.p _ c.loop-past.past c.args.list.now c.loop-past.list c.loop-past.invariant
    c.loop-past.auto.past-end c.loop-past-test.false (omega arith)
