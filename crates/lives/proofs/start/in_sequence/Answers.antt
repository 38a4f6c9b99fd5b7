use Rattle.std.proofs.Common.{◌≡◌, ◌+◌, cond, ltb, length, refl, ap, ◌∙◌, arith, length-set}
use Rattle.std.proofs.lemmas.Bool.{le-ltb}
use Rattle.model.specs.Limits.{timing}
use Rattle.graph_laws.proofs.Steps.{zeros}
use Rattle.graph_laws.proofs.Total.{total_longer}
use Rattle.schedule_laws.proofs.Times.{total_more}
use Rattle.lives.specs.Schedules.{latencies}
use Rattle.lives.proofs.Steps.{times_more}
use Rattle.lives.proofs.start.in_sequence.Goals as goal

pub loop-j-init : goal.loop-j-init
loop-j-init c = (refl, omega arith, refl, λ q. rw (le-ltb q 0 (omega arith)) (zeros 32 q))

pub returns-then-timing-interval : goal.returns-then-timing-interval
returns-then-timing-interval c = λ short.
    let us = c.args.timings.now in
    omega (
      arith,
      short.1,
      c.loop-j.invariant.2,
      total_more (λ j. (timing us j).latency) c.loop-j.j,
      total_longer (λ j. (timing us j).latency) (c.loop-j.j + 1) (length us) (omega arith),
    )

pub loop-j-preserved : goal.loop-j-preserved
loop-j-preserved c =
    let inv = c.loop-j.invariant in
    let us = c.args.timings.now in (
      length-set c.loop-j.times c.loop-j.j _ ∙ inv.0,
      omega arith,
      omega (arith, inv.2, total_more (λ j. (timing us j).latency) c.loop-j.j),
      times_more (latencies us) c.loop-j.times c.loop-j.j c.loop-j.interval inv.0 (omega arith) inv.2 inv.3,
    )

pub returns : goal.returns
returns c =
    let us = c.args.timings.now in
    let inv = c.loop-j.invariant in
    let all : c.loop-j.j ≡ length us = omega arith in
    let sum : c.loop-j.interval ≡ latencies us (length us) = inv.2 ∙ ap (latencies us) all in
    ((omega arith, omega (arith, inv.1)), sum, λ j. inv.3 j ∙ ap (λ n. cond (ltb j n) (latencies us j) 0) all)
