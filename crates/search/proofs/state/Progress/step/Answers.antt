use Rattle.std.proofs.Common.{arith}
use Rattle.search.specs.Boards.{size, hw, height, placed_on, state_of}
use Rattle.search_laws.proofs.Steps.{pick_free, step_some, step_none}
use Rattle.search.proofs.Boards.{slot_of, slot_small}
use Rattle.search.proofs.state.Progress.step.Goals as goal

pub overflow_cast-time : goal.overflow_cast-time
overflow_cast-time c =
    let it = slot_small c.args.self.now c.in-Some.op c.in-Some.ensures.below c.at-last.result c.at-last.ensures c.slot-time.result c.slot-time.ensures.value c.slot-time.ensures.early c.requires.low c.requires.steps in
    omega arith

pub place-requires-clause-free : goal.place-requires-clause-free
place-requires-clause-free c =
    let b = c.args.self.now.board in
    pick_free (height b.task.now) (placed_on b) (size b) c.in-Some.op c.pick.result c.pick.ensures.picked c.in-Some.is

pub returns-in-Some-clause-state : goal.returns-in-Some-clause-state
returns-in-Some-clause-state c =
    let s = c.args.self.now in
    let b = s.board in
    step_some b.task.now.edges.now (hw b) (size b) b.table.interval (height b.task.now) (state_of s) _ c.pick.result c.in-Some.op c.slot-time.result c.pick.ensures.picked c.in-Some.is
    (slot_of s c.in-Some.op c.in-Some.ensures.below c.at-last.result c.at-last.ensures c.slot-time.result c.slot-time.ensures.value c.slot-time.ensures.early) c.place.ensures.state

pub returns-in_default-clause-state : goal.returns-in_default-clause-state
returns-in_default-clause-state c =
    let b = c.args.self.now.board in
    step_none b.task.now.edges.now (hw b) (size b) b.table.interval (height b.task.now) (state_of c.args.self.now) c.pick.result c.pick.ensures.picked c.in_default.is
