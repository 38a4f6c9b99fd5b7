use Rattle.std.proofs.Common.{length, take, sym, ap, ◌∙◌, subst}
use Rattle.std.proofs.lemmas.Result.{err_from_is_err_and}
use Rattle.texts.specs.Records.{machine_seen}
use Rattle.dependence.specs.Loops.{loop_seen}
use Rattle.schedule.specs.Answers.{ScheduleOf}
use Rattle.schedule.proofs.Planned.{no_minimum, is_ready, planned_of}
use Rattle.schedule.proofs.plan.schedule_loop.Goals as goal

pub returns-in_err-minimum : goal.returns-in_err-minimum
returns-in_err-minimum g c =
    let err = err_from_is_err_and c.from_residual.result c.from_residual.ensures.1 in
    rw (err.1, err.2) (no_minimum (machine_seen c.args.machine.now) c.args.l.now c.args.edges.now _ _ c.args.machine.now.sound
    (c.as_slice-timings.ensures.items ∙ c.timings_of-timings.ensures) (ap (λ n. take n c.units_of-units.result) (ap length c.as_slice-classes.ensures.items) ∙ c.units_of-units.ensures.value)
    g.S.Scheme.meaning g.S.Scheme.place c.args.scheme.now c.in_err-minimum.field-0.0 c.in_err-minimum.ensures)

pub invariant_of-problem : goal.invariant_of-problem
invariant_of-problem g c = record {
  ready = is_ready (machine_seen c.args.machine.now) c.args.l.now c.args.edges.now _ _ c.args.machine.now.sound (c.as_slice-timings.ensures.items ∙ c.timings_of-timings.ensures)
      (ap (λ n. take n c.units_of-units.result) (ap length c.as_slice-classes.ensures.items) ∙ c.units_of-units.ensures.value) c.in_ok-minimum.minimum c.in_ok-minimum.ensures;
}

pub returns : goal.returns
returns g c =
    let m = machine_seen c.args.machine.now in
    subst (ScheduleOf g.S.Scheme.meaning g.S.Scheme.place m (loop_seen c.args.l.now) c.args.edges.now c.args.scheme.now c.choose.new.scheme) (sym c.ok_or.ensures.value)
    (planned_of m _ c.args.machine.now.sound (c.as_slice-timings.ensures.items ∙ c.timings_of-timings.ensures) (ap (λ n. take n c.units_of-units.result) (ap length c.as_slice-classes.ensures.items) ∙ c.units_of-units.ensures.value)
    c.in_ok-minimum.ensures g.S.Scheme.meaning g.S.Scheme.place c.args.scheme.now c.choose.new.scheme c.choose.result c.choose.ensures)
