use Rattle.std.proofs.Common.{Ok, Err, refl, ◌∙◌, subst, inr}
use Rattle.texts.specs.Records.{machine_seen}
use Rattle.dependence.specs.Loops.{loop_seen}
use Rattle.schedule.specs.Answers.{ScheduleOf}
use Rattle.standing.proofs.Held.{desk_edges, success_holds}
use Rattle.standing.proofs.desk.Desk.schedule.Goals as goal

-- a schedule of the edges on the desk is one of the loop
pub invariant_of-self : goal.invariant_of-self
invariant_of-self g c =
    let b = c.in-Some.body in
    let holds = success_holds g.S.Scheme.meaning g.S.Scheme.place g.met.S.Scheme.lawful g.met.S.Scheme.placed b c.as_slice.result.now c.args.scheme.now c.schedule_loop.new.scheme
    c.in-Ok.scheduled (c.as_slice.ensures ∙ desk_edges c.args.self.now b c.in-Some.ensures) c.in-Ok.ensures in
    record { schedule = ∣ holds.sound.is_schedule ∣₁; few = holds.sound.eight }

pub returns-in-Ok : goal.returns-in-Ok
returns-in-Ok g c =
    let b = c.in-Some.body in
    let said = subst (λ es. ScheduleOf g.S.Scheme.meaning g.S.Scheme.place (machine_seen b.machine) (loop_seen b.source) es c.args.scheme.now c.schedule_loop.new.scheme (Ok c.in-Ok.scheduled))
    c.as_slice.ensures c.in-Ok.ensures in
    (b, (c.in-Some.ensures, said, refl, refl))

pub returns-in-Err : goal.returns-in-Err
returns-in-Err g c =
    let b = c.in-Some.body in
    let said = subst (λ es. ScheduleOf g.S.Scheme.meaning g.S.Scheme.place (machine_seen b.machine) (loop_seen b.source) es c.args.scheme.now c.schedule_loop.new.scheme (Err c.in-Err.field-0))
    c.as_slice.ensures c.in-Err.ensures in
    ((refl, refl, refl), inr (b, (c.in-Some.ensures, refl, (c.in-Err.field-0, said))))
