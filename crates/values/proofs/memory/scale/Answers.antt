use Rattle.std.proofs.lemmas.List.Edits.{map_over_more}
use Rattle.model.specs.declared.Operator.TheVariants.{Times}
use Rattle.values.proofs.memory.scale.Goals as goal

pub loop-x-preserved : goal.loop-x-preserved
loop-x-preserved g c =
    let once = map_over_more (λ x. g.D.Domain.operations.apply Times x c.args.factor) c.args.cells.now c.loop-x.cells c.loop-x.x-index c.x-item.result c.loop-x-test.true c.loop-x.invariant c.x-item.is in
    cc
