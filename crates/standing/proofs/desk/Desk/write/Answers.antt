use Rattle.std.proofs.Common.{refl, subst, inr}
use Rattle.listing.specs.Written.{Answered}
use Rattle.dependence.specs.Loops.{loop_seen}
use Rattle.schedule.specs.Answers.{schedule_of}
use Rattle.standing.proofs.desk.Desk.write.Goals as goal

pub returns-in-Ok : goal.returns-in-Ok
returns-in-Ok g c =
    let p = c.in-Some.plan in
    let written = subst (Answered c.args.self.now.listing c.write.new.self (loop_seen p.body.source) (schedule_of p.scheduled) (g.S.Scheme.meaning c.args.scheme.now).name p.scheduled.choice.turns c.args.trips)
    c.in-Ok.is c.write.ensures.written in
    (p, (c.in-Some.ensures, written, refl, refl, c.parts.ensures))

pub returns-in-Err : goal.returns-in-Err
returns-in-Err g c =
    let p = c.in-Some.plan in
    let written = subst (Answered c.args.self.now.listing c.write.new.self (loop_seen p.body.source) (schedule_of p.scheduled) (g.S.Scheme.meaning c.args.scheme.now).name p.scheduled.choice.turns c.args.trips)
    c.in-Err.is c.write.ensures.written in
    ((refl, refl, written.1), inr (p, (c.in-Some.ensures, refl, (c.in-Err.field-0, written))))
