use Rattle.std.proofs.Common.{length, refl, ◌∙◌, arith}
use Rattle.search_laws.proofs.Plan.{short_edges}
use Rattle.search_laws.proofs.Ties.{tied_none}
use Rattle.search_laws.proofs.Steps.{going_start, going_out, going_found, going_on}
use Rattle.reservation.specs.Views.{count}
use Rattle.search.specs.Tables.{hw_of}
use Rattle.search.specs.Boards.{height, state_of}
use Rattle.search.proofs.Boards.{keeps_both}
use Rattle.search.proofs.Runs.{step_back, complete_back, low_now}
use Rattle.search.proofs.run.run.Goals as goal

pub invariant_of-progress : goal.invariant_of-progress
invariant_of-progress c =
    let us = c.args.task.now.timings.now in
    record {
      sound = tied_none (hw_of us c.args.table) c.args.table.interval (length us) _ (count c.args.table) c.empty.ensures c.requires.empty;
      alone = c.requires.alone;
      weighed = c.requires.weighed;
    }

pub loop-init : goal.loop-init
loop-init c =
    let k = c.args.task.now in
    let t = c.args.table in (
      going_start k.edges.now (hw_of k.timings.now t) (length k.timings.now) (height k) t.interval _ _ c.empty.ensures c.empty-2.ensures refl (omega arith),
      record { task = refl; table = record { units = refl; interval = refl } },
    )

pub step-requires-clause-low : goal.step-requires-clause-low
step-requires-clause-low c = low_now c.args.task.now c.args.table c.loop.progress _ c.loop.invariant.1 c.loop.invariant.0

pub step-requires-clause-steps : goal.step-requires-clause-steps
step-requires-clause-steps c = omega (arith, c.loop.invariant.0.enough, c.args.task.now.fitting.few, c.loop-test.true)

pub returns-then-is_complete : goal.returns-then-is_complete
returns-then-is_complete c =
    let k = c.args.task.now in
    let t = c.args.table in
    let s = c.loop.progress in
    let now = keeps_both k t s.board c.step.new.self.board c.loop.invariant.1 c.step.ensures.same in
    going_found k.edges.now (hw_of k.timings.now t) (length k.timings.now) (height k) t.interval (state_of s) _ c.loop.invariant.0 (short_edges (length k.timings.now) k.edges.now c.requires.weighed.fit) c.requires.alone
    (state_of c.step.new.self) (c.step.ensures.state ∙ step_back k t s.board c.loop.invariant.1 (state_of s)) (omega arith)
    (c.if-is_complete.ensures ∙ complete_back k t c.step.new.self.board now (state_of c.step.new.self))

pub loop-preserved : goal.loop-preserved
loop-preserved c =
    let k = c.args.task.now in
    let t = c.args.table in
    let s = c.loop.progress in
    let now = keeps_both k t s.board c.step.new.self.board c.loop.invariant.1 c.step.ensures.same in (
      going_on k.edges.now (hw_of k.timings.now t) (length k.timings.now) (height k) t.interval (state_of s) _ c.loop.invariant.0 (short_edges (length k.timings.now) k.edges.now c.requires.weighed.fit) c.requires.alone
          (state_of c.step.new.self) (c.step.ensures.state ∙ step_back k t s.board c.loop.invariant.1 (state_of s)) (omega arith) _
          (c.if-is_complete.ensures ∙ complete_back k t c.step.new.self.board now (state_of c.step.new.self)) (omega arith),
      now,
    )

pub returns : goal.returns
returns c =
    let k = c.args.task.now in
    let t = c.args.table in
    going_out k.edges.now (hw_of k.timings.now t) (length k.timings.now) (height k) t.interval (state_of c.loop.progress) _ c.loop.invariant.0 (omega arith)
