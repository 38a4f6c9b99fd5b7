use Rattle.std.proofs.Common.{get_or, take, sym}
use Rattle.std.proofs.lemmas.List.{take_all}
use Rattle.std.proofs.lemmas.List.Elements.{All-more, All-same, All-weaker}
use Rattle.engine_writes.specs.Files.{Done}
use Rattle.engine_writes.proofs.Landings.{done_here, done_still, between_still}
use Rattle.engine_writes.proofs.landing.land_listed.Goals as goal

pub loop-r-preserved : goal.loop-r-preserved
loop-r-preserved g c = λ d.
    let before = c.loop-r.invariant d in
    let list = c.args.list.now in
    let r = get_or list c.loop-r.r-index 0 in
    let Was = Done c.args.cycle c.args.waiting.now c.args.statuses.now.status c.args.values.now c.loop-r.statuses.status c.loop-r.values d in
    let Is = Done c.args.cycle c.args.waiting.now c.args.statuses.now.status c.args.values.now c.land_one.new.statuses.status c.land_one.new.values d in (
      between_still c.args.cycle c.args.waiting.now c.args.statuses.now.status c.args.values.now _ _ _ _ r d c.land_one.ensures before.0,
      All-more Is list c.loop-r.r-index 0 c.loop-r-test.true
          (All-weaker Was Is (λ q done. done_still c.args.cycle c.args.waiting.now c.args.statuses.now.status c.args.values.now _ _ _ _ r d c.land_one.ensures before.0 q done) (take c.loop-r.r-index list) before.1)
          (done_here c.args.cycle c.args.waiting.now c.args.statuses.now.status c.args.values.now _ _ _ _ r d c.land_one.ensures before.0),
    )

pub returns : goal.returns
returns g c = λ d.
    let Was = Done c.args.cycle c.args.waiting.now c.args.statuses.now.status c.args.values.now c.loop-r.statuses.status c.loop-r.values d in
    ((c.loop-r.invariant d).0, All-same Was c.args.list.now _ (sym (take_all c.loop-r.r-index c.args.list.now c.loop-r-test.false)) (c.loop-r.invariant d).1)
