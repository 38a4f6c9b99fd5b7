use Rattle.std.proofs.Common.{◌≡◌, [], ◌∷◌, length, sym, ap, ◌∙◌, arith, rules, length-append}
use Rattle.std.proofs.lemmas.Slice.Zip.{zip_turn, zip_end}
use Rattle.model.specs.ScheduleLives.{last_read}
use Rattle.dependence.specs.Loops.{loop_seen}
use Rattle.graph_laws.proofs.Steps.{zeros}
use Rattle.schedule_laws.proofs.Tables.{read_none}
use Rattle.timing.specs.Seen.{schedule_seen}
use Rattle.lives.proofs.Loops.{count_is, seen_at, near_at}
use Rattle.lives.proofs.Steps.{reads_then}
use Rattle.lives.proofs.ends.last_reads.Goals as goal

pub loop-operation-init : goal.loop-operation-init
loop-operation-init c = λ v. zeros 32 v ∙ sym (read_none (loop_seen c.args.l.now) (schedule_seen c.args.schedule.now) v)

pub note_operation-requires-clause-near : goal.note_operation-requires-clause-near
note_operation-requires-clause-near c =
    let o = c.in-Some.operation.now in
    let turn = zip_turn c.operations.result.now c.args.schedule.now.times c.loop-operation.yielded c.into_iter-operation-iterator.result c.loop-operation.operation-iterator c.next.new.self
    c.next.result (search rules) (search rules) c.loop-operation.yielded_by (c.in-Some.operation, c.in-Some.time) c.in-Some.is c.next.ensures.steps in
    near_at c.args.l.now c.operations.result.now c.operations.ensures.operations (length c.loop-operation.yielded) o o turn.0 (turn.2 o)

pub loop-operation-preserved : goal.loop-operation-preserved
loop-operation-preserved c =
    let o = c.in-Some.operation.now in
    let q = length c.loop-operation.yielded in
    let turn = zip_turn c.operations.result.now c.args.schedule.now.times c.loop-operation.yielded c.into_iter-operation-iterator.result c.loop-operation.operation-iterator c.next.new.self
    c.next.result (search rules) (search rules) c.loop-operation.yielded_by (c.in-Some.operation, c.in-Some.time) c.in-Some.is c.next.ensures.steps in
    let same = seen_at c.args.l.now c.operations.result.now c.operations.ensures.operations q o o turn.0 (turn.2 o) in
    λ v.
    reads_then (loop_seen c.args.l.now) (schedule_seen c.args.schedule.now) v q _ _ c.in-Some.time.now _ (c.loop-operation.invariant v) same (turn.3 0) (c.note_operation.ensures v) ∙
    ap (last_read (loop_seen c.args.l.now) (schedule_seen c.args.schedule.now) v) (sym (length-append c.loop-operation.yielded ((c.in-Some.operation, c.in-Some.time) ∷ [])))

pub returns : goal.returns
returns c =
    let done = zip_end c.operations.result.now c.args.schedule.now.times c.loop-operation.yielded c.into_iter-operation-iterator.result c.loop-operation.operation-iterator c.next.new.self
    c.next.result (search rules) (search rules) c.loop-operation.yielded_by c.in-None.is c.next.ensures.steps in
    let all : length c.loop-operation.yielded ≡ length (loop_seen c.args.l.now) =
    omega (arith, done, c.operations.ensures.few, count_is c.args.l.now c.operations.result.now c.operations.ensures.operations) in
    λ v. c.loop-operation.invariant v ∙ ap (last_read (loop_seen c.args.l.now) (schedule_seen c.args.schedule.now) v) all
