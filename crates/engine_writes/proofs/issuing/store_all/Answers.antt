use Rattle.std.proofs.Common.{◌+◌, sym, subst}
use Rattle.engine_laws.specs.Rows.{slots_from}
use Rattle.engine_laws.proofs.Apart.{from_none, from_some, gathered_end}
use Rattle.engine_slots.specs.Slots.{slot_of}
use Rattle.engine_slots.specs.Rows.{slot_at}
use Rattle.engine_writes.specs.Steps.{StoredSoFar}
use Rattle.engine_writes.proofs.Issued.{stored_more, stored_all}
use Rattle.engine_writes.proofs.issuing.store_all.Goals as goal
use Rattle.engine_writes.proofs.issuing.store_all.Goals.{in-Some, in_default}

pub loop-place-preserved : goal.loop-place-preserved
loop-place-preserved g c =
    let dom = g.D.Domain.operations in
    let p = c.args.row.pass in
    let end = c.args.row.end in
    let at = c.loop-place.place in
    let values = c.args.operands.now.values.now in
    let f = slot_at (g.S.Scheme.meaning c.args.program.now.scheme.now).resolve c.args.program.now.held.hardware.now.timings (g.C.Code.issued c.args.program.now.code.now) p in
    let slots = slots_from f end c.args.row.first in
    elim c.match-fetch.branch [
      | in-Some w ↦
          let here = subst (λ s. StoredSoFar dom values p slots s c.args.memory.now c.loop-place.memory)
          (from_some f end at (slot_of w.in-Some.slot) c.loop-place-test.true (sym w.in-Some.ensures.is)) c.loop-place.invariant in
          rw w.memory-is (stored_more dom values p slots (slots_from f end (at + 1)) (slot_of w.in-Some.slot) _ _ _ here w.store_one.ensures)
      | in_default w ↦
          rw w.memory-is (subst (λ s. StoredSoFar dom values p slots s c.args.memory.now c.loop-place.memory)
          (from_none f end at c.loop-place-test.true (sym w.in_default.ensures.is)) c.loop-place.invariant)
    ]

pub returns : goal.returns
returns g c =
    let dom = g.D.Domain.operations in
    let p = c.args.row.pass in
    let end = c.args.row.end in
    let values = c.args.operands.now.values.now in
    let f = slot_at (g.S.Scheme.meaning c.args.program.now.scheme.now).resolve c.args.program.now.held.hardware.now.timings (g.C.Code.issued c.args.program.now.code.now) p in
    let slots = slots_from f end c.args.row.first in
    stored_all dom values p slots _ _ (subst (λ s. StoredSoFar dom values p slots s c.args.memory.now c.loop-place.memory)
    (gathered_end f c.loop-place.place end c.loop-place-test.false) c.loop-place.invariant)
