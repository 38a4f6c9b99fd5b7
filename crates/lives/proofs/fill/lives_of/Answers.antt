use Rattle.std.proofs.Common.{◌≡◌, true, [], sym, refl, ap, ◌∙◌, subst, arith}
use Rattle.model.specs.Limits.{hardware}
use Rattle.model.specs.Loop.{makes, op}
use Rattle.model.specs.Schedule.{Schedule}
use Rattle.registers.specs.Views.{table}
use Rattle.dependence.specs.Loops.{loop_seen}
use Rattle.timing.specs.Seen.{schedule_seen}
use Rattle.lives.specs.Schedules.{LivesOf}
use Rattle.lives.proofs.Loops.{count_is, seen_at}
use Rattle.lives.proofs.Steps.{life_then, no_room, no_push, table_first, table_then, table_skip, table_last}
use Rattle.lives.proofs.fill.lives_of.Goals as goal
use Rattle.lives.proofs.fill.lives_of.Goals.{then-makes+in_ok-life+else-not-push, else-makes}

pub loop-j-init : goal.loop-j-init
loop-j-init c =
    table_first (loop_seen c.args.l.now) (hardware c.args.timings.now []) (schedule_seen c.args.schedule.now) _ c.in_ok-lives.ensures

pub returns-in_err-life : goal.returns-in_err-life
returns-in_err-life c =
    let ops = loop_seen c.args.l.now in
    let us = c.args.timings.now in
    let w : Schedule = schedule_seen c.args.schedule.now in
    let j = c.loop-j.j in
    let m : makes (op ops j) ≡ true = sym (ap makes (seen_at c.args.l.now _ c.operations-operation-items.ensures.operations j _ _ c.loop-j-test.true refl)) ∙ (sym c.makes.ensures ∙ c.if-makes.true) in
    subst (LivesOf ops us w) (sym c.from_residual-in_err-life.ensures)
    (λ units. no_room ops us w j c.latency_of.result units (omega (arith, count_is c.args.l.now _ c.operations-operation-items.ensures.operations)) m c.latency_of.ensures c.in_err-life.ensures)

pub returns-then-not-push : goal.returns-then-not-push
returns-then-not-push c =
    let ops = loop_seen c.args.l.now in
    let us = c.args.timings.now in
    let w : Schedule = schedule_seen c.args.schedule.now in
    let j = c.loop-j.j in
    let m : makes (op ops j) ≡ true = sym (ap makes (seen_at c.args.l.now _ c.operations-operation-items.ensures.operations j _ _ c.loop-j-test.true refl)) ∙ (sym c.makes.ensures ∙ c.if-makes.true) in
    let is = life_then ops us w j c.latency_of.result _ c.in_ok-life.life c.latency_of.ensures (c.last_reads-reads.ensures j) c.in_ok-life.ensures in
    λ units. no_push ops us w j c.in_ok-life.life (table c.loop-j.lives) units (omega (arith, count_is c.args.l.now _ c.operations-operation-items.ensures.operations)) m is c.loop-j.invariant c.if-not-push.ensures.0

pub loop-j-preserved : goal.loop-j-preserved
loop-j-preserved c =
    let ops = loop_seen c.args.l.now in
    let us = c.args.timings.now in
    let w : Schedule = schedule_seen c.args.schedule.now in
    let j = c.loop-j.j in
    let m : makes (op ops j) ≡ c.makes.result = sym (ap makes (seen_at c.args.l.now _ c.operations-operation-items.ensures.operations j _ _ c.loop-j-test.true refl)) ∙ sym c.makes.ensures in
    elim c.if-makes.branch [
      | then-makes+in_ok-life+else-not-push x ↦
          let is = life_then ops us w j x.latency_of.result _ x.in_ok-life.life x.latency_of.ensures (c.last_reads-reads.ensures j) x.in_ok-life.ensures in
          ap table x.lives-is ∙
          table_then ops (hardware us []) w j (table c.loop-j.lives) _ x.in_ok-life.life c.loop-j.invariant x.if-not-push.ensures.2 is (m ∙ x.if-makes.true)
      | else-makes x ↦ ap table x.lives-is ∙ table_skip ops (hardware us []) w j (table c.loop-j.lives) c.loop-j.invariant (m ∙ x.if-makes.false)
    ]

pub returns : goal.returns
returns c =
    λ units. table_last (loop_seen c.args.l.now) c.args.timings.now (schedule_seen c.args.schedule.now) c.loop-j.j (table c.loop-j.lives) units
    (omega (arith, count_is c.args.l.now _ c.operations-operation-items.ensures.operations)) c.loop-j.invariant
