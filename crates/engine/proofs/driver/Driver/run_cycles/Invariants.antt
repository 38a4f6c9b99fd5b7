use Rattle.std.proofs.Common.{◌≡◌, ◌+◌, ◌*◌, ◌<◌}
use Rattle.model.specs.Codes.{form_of}
use Rattle.engine_laws.specs.Dues.{Registers}
use Rattle.engine_writes.specs.Lists.{lists_of}
use Rattle.engine_slots.specs.Rows.{units_of}
use Rattle.engine.specs.Answers.{lent, Running}
use Rattle.engine.proofs.driver.Driver.run_cycles.Given as goal

abbrev pub invariant-loop-cycle : goal.invariant-loop-cycle
invariant-loop-cycle g l =
    (l.pass * l.interval + l.row ≡ l.cycle) ×
    (l.cycle < l.cycles → l.row < l.interval) ×
    Registers (lists_of l.tables.dues) (g.S.Scheme.meaning l.self.program.scheme.now).file ×
    Running g.D.Domain.operations (units_of l.self.program.held.hardware.now.units) l.interval l.self.trips (g.S.Scheme.meaning l.self.program.scheme.now).file
    (form_of (g.S.Scheme.meaning l.self.program.scheme.now).resolve l.self.program.held.hardware.now.timings l.interval (g.C.Code.form l.self.program.code.now))
    (lent g.D.Domain.operations l.initial.memory l.initial.values l.initial.waiting) l.cycle l.memory l.values l.waiting l.tables
