use Rattle.std.proofs.Common.{◌+◌, List, sym, subst}
use Rattle.model.specs.Issues.{Slot}
use Rattle.engine_laws.specs.Rows.{slots_from}
use Rattle.engine_laws.proofs.Apart.{from_none, from_some, gathered_end}
use Rattle.engine_slots.specs.Slots.{slot_of}
use Rattle.engine_slots.specs.Rows.{slot_at}
use Rattle.engine_writes.specs.Lists.{lists_of}
use Rattle.engine_writes.specs.Steps.{WaitedSoFar}
use Rattle.engine_writes.proofs.Issued.{waited_first, waited_more, waited_all}
use Rattle.engine_writes.proofs.issuing.await_all.Goals as goal
use Rattle.engine_writes.proofs.issuing.await_all.Goals.{in-Some, in_default}

pub loop-place-init : goal.loop-place-init
loop-place-init g c = waited_first g.D.Domain.operations _ _ _ _ _ _ _ _

pub loop-place-preserved : goal.loop-place-preserved
loop-place-preserved g c =
    let dom = g.D.Domain.operations in
    let p = c.args.row.pass in
    let end = c.args.row.end in
    let at = c.loop-place.place in
    let file = (g.S.Scheme.meaning c.args.program.now.scheme.now).file in
    let f = slot_at (g.S.Scheme.meaning c.args.program.now.scheme.now).resolve c.args.program.now.held.hardware.now.timings (g.C.Code.issued c.args.program.now.code.now) p in
    let slots = slots_from f end c.args.row.first in
    let Left : List Slot → Type 0 = λ s.
    WaitedSoFar dom c.args.operands.now.values.now p c.args.memory.now c.args.row.cycle file slots s c.args.waiting.now (lists_of c.args.dues.now)
    c.loop-place.waiting (lists_of c.loop-place.dues) in
    elim c.match-fetch.branch [
      | in-Some w ↦
          let here = subst Left (from_some f end at (slot_of w.in-Some.slot) c.loop-place-test.true (sym w.in-Some.ensures.is)) c.loop-place.invariant in
          let within = w.in-Some.ensures.within in
          rw (w.waiting-is, w.dues-is)
          (waited_more dom c.args.operands.now.values.now p c.args.memory.now c.args.row.cycle file slots _ _ _ _ (slots_from f end (at + 1)) (slot_of w.in-Some.slot) _ _ here
          (w.await_one.ensures file within.target))
      | in_default w ↦
          rw (w.waiting-is, w.dues-is)
          (subst Left (from_none f end at c.loop-place-test.true (sym w.in_default.ensures.is)) c.loop-place.invariant)
    ]

pub returns : goal.returns
returns g c =
    let dom = g.D.Domain.operations in
    let p = c.args.row.pass in
    let end = c.args.row.end in
    let file = (g.S.Scheme.meaning c.args.program.now.scheme.now).file in
    let f = slot_at (g.S.Scheme.meaning c.args.program.now.scheme.now).resolve c.args.program.now.held.hardware.now.timings (g.C.Code.issued c.args.program.now.code.now) p in
    let slots = slots_from f end c.args.row.first in
    let Left : List Slot → Type 0 = λ s.
    WaitedSoFar dom c.args.operands.now.values.now p c.args.memory.now c.args.row.cycle file slots s c.args.waiting.now (lists_of c.args.dues.now)
    c.loop-place.waiting (lists_of c.loop-place.dues) in
    waited_all dom c.args.operands.now.values.now p c.args.memory.now c.args.row.cycle file slots _ _ _ _
    (subst Left (gathered_end f c.loop-place.place end c.loop-place-test.false) c.loop-place.invariant)
