use Rattle.std.proofs.Common.{sym, refl, subst, arith}
use Rattle.schedule.specs.Choices.{ChoiceOf}
use Rattle.schedule.proofs.Plans.{is_short, sequential_limits, reached_next, reached_found, reached_none, reached_sequence}
use Rattle.schedule.proofs.problem.Problem.choose.Goals as goal

pub returns-in_err-sequence : goal.returns-in_err-sequence
returns-in_err-sequence g c = absurd (c.in_err-sequence.ensures (is_short c.args.self.now))

pub loop-interval-init : goal.loop-interval-init
loop-interval-init g c = (refl, omega arith, refl)

pub overflow_add-steps : goal.overflow_add-steps
overflow_add-steps g c =
    omega (arith, c.loop-interval.invariant.1, c.attempt-attempt.ensures.few, c.loop-interval-test.true, c.in_ok-sequence.ensures.1, c.in_ok-sequence.ensures.0.1)

pub returns-in-Some : goal.returns-in-Some
returns-in-Some g c =
    reached_found c.args.self.now g.S.Scheme.meaning g.S.Scheme.place c.args.scheme.now c.loop-interval.scheme c.attempt-attempt.new.scheme
    c.loop-interval.invariant.0 c.loop-interval.interval c.loop-interval.steps c.loop-interval.invariant.2 c.attempt-attempt.result
    (omega (arith, c.in_ok-sequence.ensures.1, c.loop-interval-test.true)) c.attempt-attempt.ensures c.in-Some.choice c.in-Some.is

pub loop-interval-preserved : goal.loop-interval-preserved
loop-interval-preserved g c =
    let next = reached_next c.args.self.now g.S.Scheme.meaning g.S.Scheme.place c.args.scheme.now c.loop-interval.scheme c.attempt-attempt.new.scheme
    c.loop-interval.invariant.0 c.loop-interval.interval c.loop-interval.steps c.loop-interval.invariant.2 c.attempt-attempt.result
    (omega (arith, c.in_ok-sequence.ensures.1, c.loop-interval-test.true)) c.attempt-attempt.ensures c.in_default.is in
    (next.0, omega (arith, c.loop-interval.invariant.1, c.attempt-attempt.ensures.few, c.loop-interval.auto.interval), next.1)

pub offer-requires : goal.offer-requires
offer-requires g c = λ _. sequential_limits c.args.self.now c.in_ok-sequence.sequence c.in_ok-sequence.ensures

pub returns-in_err-choice : goal.returns-in_err-choice
returns-in_err-choice g c =
    subst (ChoiceOf g.S.Scheme.meaning g.S.Scheme.place c.args.self.now c.args.scheme.now c.offer.new.scheme) (sym c.from_residual-in_err-choice.ensures)
    (reached_none c.args.self.now g.S.Scheme.meaning g.S.Scheme.place c.args.scheme.now c.loop-interval.scheme c.offer.new.scheme
    c.loop-interval.invariant.0 c.loop-interval.interval c.loop-interval.steps c.loop-interval.invariant.2 c.in_ok-sequence.sequence c.in_ok-sequence.ensures
    c.loop-interval-test.false c.in_err-choice.ensures)

pub returns : goal.returns
returns g c =
    reached_sequence c.args.self.now g.S.Scheme.meaning g.S.Scheme.place c.args.scheme.now c.loop-interval.scheme c.offer.new.scheme
    c.loop-interval.invariant.0 c.loop-interval.interval c.loop-interval.steps c.loop-interval.invariant.2 c.in_ok-sequence.sequence c.in_ok-sequence.ensures
    c.loop-interval-test.false c.in_ok-choice.choice c.in_ok-choice.ensures
