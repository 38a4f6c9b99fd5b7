use Rattle.std.proofs.Common.{subst}
use Rattle.search.specs.Answers.{SearchOf}
use Rattle.schedule.proofs.Attempts.{there_is, room_for, when_none, when_found}
use Rattle.schedule.proofs.problem.Problem.attempt.Goals as goal

pub unwrap-outcome-requires : goal.unwrap-outcome-requires
unwrap-outcome-requires g c = there_is c.args.self.now c.args.interval c.requires.low c.requires.below c.search.result c.search.ensures

pub returns-in_default : goal.returns-in_default
returns-in_default g c =
    let p = c.args.self.now in
    when_none p c.args.interval c.requires.low c.requires.below c.unwrap-outcome.result
    (subst (SearchOf p.edges.now p.timings.now p.units.now c.args.interval) c.unwrap-outcome.ensures c.search.ensures)
    g.S.Scheme.meaning g.S.Scheme.place c.args.scheme.now c.in_default.is

pub offer-choice-requires : goal.offer-choice-requires
offer-choice-requires g c = room_for c.args.self.now c.args.interval c.requires.low c.requires.below c.times_of-times.result

pub returns : goal.returns
returns g c =
    let p = c.args.self.now in
    when_found p c.args.interval c.requires.low c.requires.below c.unwrap-outcome.result
    (subst (SearchOf p.edges.now p.timings.now p.units.now c.args.interval) c.unwrap-outcome.ensures c.search.ensures)
    g.S.Scheme.meaning g.S.Scheme.place c.args.scheme.now c.in-Some.table c.times_of-times.result c.in-Some.is c.times_of-times.ensures c.offer-choice.new.scheme c.offer-choice.result
    c.offer-choice.ensures
