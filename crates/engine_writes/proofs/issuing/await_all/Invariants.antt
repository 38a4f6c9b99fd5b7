use Rattle.engine_laws.specs.Rows.{slots_from}
use Rattle.engine_slots.specs.Rows.{slot_at}
use Rattle.engine_writes.specs.Lists.{lists_of}
use Rattle.engine_writes.specs.Steps.{WaitedSoFar}
use Rattle.engine_writes.proofs.issuing.await_all.Given as goal

abbrev pub invariant-loop-place : goal.invariant-loop-place
invariant-loop-place g l =
    let f = slot_at (g.S.Scheme.meaning l.program.scheme.now).resolve l.program.held.hardware.now.timings (g.C.Code.issued l.program.code.now) l.row.pass in
    WaitedSoFar g.D.Domain.operations l.operands.values.now l.row.pass l.memory l.row.cycle (g.S.Scheme.meaning l.program.scheme.now).file (slots_from f l.row.end l.row.first)
    (slots_from f l.row.end l.place) l.initial.waiting (lists_of l.initial.dues) l.waiting (lists_of l.dues)
