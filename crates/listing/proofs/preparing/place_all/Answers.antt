use Rattle.std.proofs.Common.{◌≡◌, ◌<◌, ◌/◌, ◌%◌, length, cond, refl, ap, ◌∙◌, arith, rules}
use Rattle.model.specs.Loop.{makes}
use Rattle.dependence.specs.Operations.{operation_seen}
use Rattle.std.specs.Slice.Iter.{iter_rest}
use Rattle.std.proofs.lemmas.List.{length_push, length-map}
use Rattle.std.proofs.lemmas.Slice.Zip.{zip_turn}
use Rattle.few.specs.Held.{held}
use Rattle.timing.specs.Seen.{schedule_seen}
use Rattle.dependence.specs.Loops.{loop_seen}
use Rattle.listing.proofs.Bodies.{operation_at, place_next}
use Rattle.listing.proofs.preparing.place_all.Goals as goal

pub loop-operation-preserved : goal.loop-operation-preserved
loop-operation-preserved c =
    let os = c.operations.result.now in
    let ts = c.args.schedule.now.times in
    let ops = loop_seen c.args.source.now in
    let w = schedule_seen c.args.schedule.now in
    let n = length c.loop-operation.yielded in
    let first : iter_rest c.into_iter-operation-iterator.result.a ≡ os = search rules in
    let second : iter_rest c.into_iter-operation-iterator.result.b ≡ ts = search rules in
    let turn = zip_turn os ts c.loop-operation.yielded c.into_iter-operation-iterator.result c.loop-operation.operation-iterator c.next.new.self c.next.result first second c.loop-operation.yielded_by (c.in-Some.operation, c.in-Some.time) c.in-Some.is c.next.ensures.steps in
    let made : c.from-variable.result ≡ cond (makes (operation_seen c.in-Some.operation.now)) 1 0 = search rules in
    let short : n < length ops = omega (arith, turn.0, ap length c.operations.ensures.operations, length-map os operation_seen) in
    rw (length_push c.loop-operation.yielded (c.in-Some.operation, c.in-Some.time))
    (place_next ops w (held c.loop-operation.all) (held c.push.new.self) n c.loop-operation.variable c.from-variable.result _ c.loop-operation.invariant c.in-Ok.ensures.1 short (record {
      operation = operation_at os ops n c.in-Some.operation.now c.operations.ensures.operations turn.0 (turn.2 _);
      variable = c.loop-operation.invariant.numbered;
      stage = c.stage_and_row-stage.ensures.stage ∙ ap (λ t. t / w.interval) (c.from.ensures ∙ turn.3 0);
      row = c.stage_and_row-stage.ensures.row ∙ ap (λ t. t % w.interval) (c.from.ensures ∙ turn.3 0);
    }) refl made)
