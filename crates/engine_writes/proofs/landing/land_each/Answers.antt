use Rattle.std.proofs.Common.{inl, inr, arith}
use Rattle.std.proofs.lemmas.Bool.{cases_eq}
use Rattle.engine_writes.proofs.Landings.{done_here, done_still, between_still}
use Rattle.engine_writes.proofs.landing.land_each.Goals as goal

pub loop-r-preserved : goal.loop-r-preserved
loop-r-preserved g c = λ d.
    let before = c.loop-r.invariant d in (
      between_still c.args.cycle c.args.waiting.now c.args.statuses.now.status c.args.values.now _ _ _ _ c.loop-r.r d c.land_one.ensures before.0,
      λ r h. elim (cases_eq r c.loop-r.r) [
        | inl e ↦ rw e (done_here c.args.cycle c.args.waiting.now c.args.statuses.now.status c.args.values.now _ _ _ _ c.loop-r.r d c.land_one.ensures before.0)
        | inr z ↦ done_still c.args.cycle c.args.waiting.now c.args.statuses.now.status c.args.values.now _ _ _ _ c.loop-r.r d c.land_one.ensures before.0 r (before.1 r (omega arith))
      ],
    )

pub returns : goal.returns
returns g c = λ d. ((c.loop-r.invariant d).0, λ r h. (c.loop-r.invariant d).1 r (omega (arith, c.loop-r-test.false)))
