use Rattle.std.proofs.Common.{Err, sym, ap, ◌∙◌, subst}
use Rattle.std.proofs.lemmas.Result.{err_from_is_err_and}
use Rattle.model.specs.Codes.{form_of}
use Rattle.engine_laws.proofs.Machines.{next_cycle}
use Rattle.engine_laws.specs.Dues.{Registers}
use Rattle.engine_slots.specs.Rows.{units_of}
use Rattle.engine_writes.specs.Lists.{lists_of}
use Rattle.engine.specs.declared.tables.Tables.{Tables}
use Rattle.engine.specs.Runs.{Cycled}
use Rattle.engine.proofs.OneCycle.{row_slots, landings, denied, admitted}
use Rattle.engine.proofs.driver.Driver.run_cycle.Goals as goal

pub returns-in_err-examine : goal.returns-in_err-examine
returns-in_err-examine g c = λ k pass row m stands.
    let dom = g.D.Domain.operations in
    let hardware = c.args.self.now.program.held.hardware.now in
    let scheme = g.S.Scheme.meaning c.args.self.now.program.scheme.now in
    let rows = g.C.Code.form c.args.self.now.program.code.now in
    let issued = g.C.Code.issued c.args.self.now.program.code.now in
    let cycle = c.args.moment.cycle in
    let at = c.args.moment.pass in
    let t = c.args.tables.now in
    let same = row_slots scheme.resolve hardware.timings rows issued k cycle at c.args.moment.row _ _ pass row c.row-first.ensures in
    let landed = landings dom cycle scheme.file _ m _ _ _ t stands c.file.ensures _ _ _ c.land.ensures.lands in
    let p = err_from_is_err_and c.from_residual.result c.from_residual.ensures.1 in
    let d = c.in_err-examine.field-0.0 in
    let after : Tables = record { board = c.examine.new.self; dues = c.land.new.dues } in
    subst (λ a. Cycled dom (units_of hardware.units) c.args.self.now.trips scheme.file k cycle (form_of scheme.resolve hardware.timings k rows) m c.args.memory.now c.land.new.values c.args.waiting.now after a)
    (sym (p.1 ∙ ap Err p.2))
    (denied dom (units_of hardware.units) k c.args.self.now.trips cycle scheme.file (form_of scheme.resolve hardware.timings k rows) _ same m _ _ _ t stands _ _ landed.0
    at pass _ _ d after c.in_err-examine.ensures)

pub returns : goal.returns
returns g c = λ k pass row m stands.
    let dom = g.D.Domain.operations in
    let hardware = c.args.self.now.program.held.hardware.now in
    let scheme = g.S.Scheme.meaning c.args.self.now.program.scheme.now in
    let rows = g.C.Code.form c.args.self.now.program.code.now in
    let issued = g.C.Code.issued c.args.self.now.program.code.now in
    let cycle = c.args.moment.cycle in
    let p = c.args.moment.pass in
    let t = c.args.tables.now in
    let same = row_slots scheme.resolve hardware.timings rows issued k cycle p c.args.moment.row _ _ pass row c.row-first.ensures in
    let landed = landings dom cycle scheme.file _ m _ _ _ t stands c.file.ensures _ _ _ c.land.ensures.lands in
    admitted dom (units_of hardware.units) k c.args.self.now.trips cycle scheme.file (form_of scheme.resolve hardware.timings k rows) _ same m _ _ _ t stands _ _ landed.0
    p pass _ _ _ _ _ _ c.in_ok-examine.ensures landed.1 (subst (λ n. Registers (lists_of c.land.new.dues) n) c.file.ensures c.land.ensures.kept) c.await_all.ensures c.store_all.ensures
    (λ s x tracks. next_cycle cycle _ _ _ s x tracks c.clear.ensures.cleared c.clear.ensures.others)
