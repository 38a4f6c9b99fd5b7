use Rattle.std.proofs.Common.{◌≡◌, ◌*◌, length, Ok, Err, sym, ap, ◌∙◌, mul-zero}
use Rattle.std.proofs.lemmas.Result.{err_from_is_err_and}
use Rattle.model.specs.Driving.{run}
use Rattle.model.specs.Codes.{form_of}
use Rattle.engine_slots.specs.Rows.{units_of}
use Rattle.engine.specs.Answers.{begins, lent}
use Rattle.engine.proofs.Driven.{begun, whole, answers}
use Rattle.engine.proofs.driving.drive.Goals as goal

pub run_cycles-requires : goal.run_cycles-requires
run_cycles-requires g c =
    let timings = c.args.hardware.now.timings in
    let values = length c.args.values.now in
    let waiting = length c.args.waiting.now in
    let cycles = c.args.run.passes * c.args.run.interval in
    let file = (g.S.Scheme.meaning c.args.scheme.now).file in
    let begins_so : begins timings file values waiting cycles ≡ Ok c.in_ok-cycles.cycles =
    ap (λ f. begins timings f values waiting cycles) (sym c.file.ensures) ∙ sym c.begin.ensures.is ∙ c.in_ok-cycles.was in
    let all = begun timings file values waiting cycles c.in_ok-cycles.cycles begins_so in
    record {
      soon = all.dues_fit;
      passes = λ none. all.cycles_are ∙ ap (λ i. c.args.run.passes * i) none ∙ mul-zero c.args.run.passes;
      fits = (all.values_fit, all.waiting_fit);
    }

pub returns-in_err-run_cycles : goal.returns-in_err-run_cycles
returns-in_err-run_cycles g c =
    let dom = g.D.Domain.operations in
    let scheme = g.S.Scheme.meaning c.args.scheme.now in
    let timings = c.args.hardware.now.timings in
    let values = length c.args.values.now in
    let waiting = length c.args.waiting.now in
    let k = c.args.run.interval in
    let cycles = c.args.run.passes * k in
    let begins_so : begins timings scheme.file values waiting cycles ≡ Ok c.in_ok-cycles.cycles =
    ap (λ f. begins timings f values waiting cycles) (sym c.file.ensures) ∙ sym c.begin.ensures.is ∙ c.in_ok-cycles.was in
    let p = err_from_is_err_and c.from_residual-in_err-run_cycles.result c.from_residual-in_err-run_cycles.ensures.1 in
    answers dom timings scheme.file values waiting cycles c.in_ok-cycles.cycles
    (λ n. run dom (units_of c.args.hardware.now.units) k c.args.run.trips (form_of scheme.resolve timings k (g.C.Code.form c.args.code.now)) n
    (lent dom c.args.memory.now c.args.values.now c.args.waiting.now))
    _ _ _ _ _ _ c.run_cycles.result _ begins_so c.run_cycles.ensures
    (p.1 ∙ ap Err p.2 ∙ ap (whole c.in_ok-cycles.cycles) (sym c.in_err-run_cycles.was))

pub returns : goal.returns
returns g c =
    let dom = g.D.Domain.operations in
    let scheme = g.S.Scheme.meaning c.args.scheme.now in
    let timings = c.args.hardware.now.timings in
    let values = length c.args.values.now in
    let waiting = length c.args.waiting.now in
    let k = c.args.run.interval in
    let cycles = c.args.run.passes * k in
    let begins_so : begins timings scheme.file values waiting cycles ≡ Ok c.in_ok-cycles.cycles =
    ap (λ f. begins timings f values waiting cycles) (sym c.file.ensures) ∙ sym c.begin.ensures.is ∙ c.in_ok-cycles.was in
    answers dom timings scheme.file values waiting cycles c.in_ok-cycles.cycles
    (λ n. run dom (units_of c.args.hardware.now.units) k c.args.run.trips (form_of scheme.resolve timings k (g.C.Code.form c.args.code.now)) n
    (lent dom c.args.memory.now c.args.values.now c.args.waiting.now))
    _ _ _ _ _ _ c.run_cycles.result _ begins_so c.run_cycles.ensures
    (ap (whole c.in_ok-cycles.cycles) (sym c.in_ok-run_cycles.was))
