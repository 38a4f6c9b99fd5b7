use Rattle.std.proofs.Common.{◌∙◌, length-set, arith}
use Rattle.few.proofs.Zipped.{zipped_more}
use Rattle.few.proofs.list.Few.map.Goals as goal

pub loop-place-preserved : goal.loop-place-preserved
loop-place-preserved g c = (
  length-set c.loop-place.items c.loop-place.place c.f.result ∙ c.loop-place.invariant.0,
  zipped_more (goal.F-post g c.args.f) _ _ c.loop-place.place c.item-item.result c.f.result c.loop-place-test.true (omega (arith, c.loop-place.invariant.0, c.loop-place-test.true, c.as_slice-item-items.ensures.few)) c.item-item.is c.f.ensures c.loop-place.invariant.1,
)
