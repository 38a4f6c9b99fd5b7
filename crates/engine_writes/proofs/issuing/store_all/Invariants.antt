use Rattle.engine_laws.specs.Rows.{slots_from}
use Rattle.engine_slots.specs.Rows.{slot_at}
use Rattle.engine_writes.specs.Steps.{StoredSoFar}
use Rattle.engine_writes.proofs.issuing.store_all.Given as goal

abbrev pub invariant-loop-place : goal.invariant-loop-place
invariant-loop-place g l =
    let f = slot_at (g.S.Scheme.meaning l.program.scheme.now).resolve l.program.held.hardware.now.timings (g.C.Code.issued l.program.code.now) l.row.pass in
    StoredSoFar g.D.Domain.operations l.operands.values.now l.row.pass (slots_from f l.row.end l.row.first) (slots_from f l.row.end l.place) l.initial.memory l.memory
