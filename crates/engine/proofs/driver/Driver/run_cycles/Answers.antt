use Rattle.std.proofs.Common.{◌≡◌, ℕ, ◌+◌, ◌*◌, ◌/◌, ◌%◌, ◌<◌, sym, ap, ◌∙◌, inl, inr, add-mul, le-mul_of_pos_right, arith}
use Rattle.std.proofs.lemmas.Nat.{div-mul-add, mod-mul-add}
use Rattle.std.proofs.lemmas.Bool.{cases_eq}
use Rattle.model.specs.Codes.{form_of}
use Rattle.engine_slots.specs.Rows.{units_of}
use Rattle.engine.proofs.Driven.{at_first, one_more, stops, ends}
use Rattle.engine.proofs.driver.Driver.run_cycles.Goals as goal
use Rattle.engine.proofs.driver.Driver.run_cycles.Goals.{then-row-interval, else-row-interval}

some_interval : (interval cycles : ℕ) → (interval ≡ 0 → cycles ≡ 0) → 0 < cycles → 0 < interval
some_interval interval cycles none h = elim (cases_eq interval 0) [
  | inl e ↦ absurd (omega (arith, none e))
  | inr z ↦ omega arith
]

pub loop-cycle-init : goal.loop-cycle-init
loop-cycle-init g c =
    let scheme = g.S.Scheme.meaning c.args.self.now.program.scheme.now in
    let new = c.new-tables.ensures in
    let running = at_first g.D.Domain.operations (units_of c.args.self.now.program.held.hardware.now.units) c.args.interval c.args.self.now.trips scheme.file
    (form_of scheme.resolve c.args.self.now.program.held.hardware.now.timings c.args.interval (g.C.Code.form c.args.self.now.program.code.now))
    c.args.memory.now c.args.values.now c.args.waiting.now c.new-tables.result new.statuses new.units new.dues in
    (omega arith, (λ h. some_interval c.args.interval c.args.cycles c.requires.passes (omega arith)), running.1.1.registers, running)

pub returns-in-Err : goal.returns-in-Err
returns-in-Err g c =
    let scheme = g.S.Scheme.meaning c.args.self.now.program.scheme.now in
    let k = c.args.interval in
    let pass = c.loop-cycle.pass in
    let row = c.loop-cycle.row in
    let inv = c.loop-cycle.invariant in
    let small : row < k = inv.1 c.loop-cycle-test.true in
    let quotient : c.loop-cycle.cycle / k ≡ pass = ap (λ n. n / k) (sym inv.0) ∙ div-mul-add pass k row small in
    let remainder : c.loop-cycle.cycle % k ≡ row = ap (λ n. n % k) (sym inv.0) ∙ mod-mul-add pass k row small in
    stops g.D.Domain.operations (units_of c.args.self.now.program.held.hardware.now.units) k c.args.self.now.trips scheme.file
    (form_of scheme.resolve c.args.self.now.program.held.hardware.now.timings k (g.C.Code.form c.args.self.now.program.code.now))
    c.args.memory.now c.args.values.now c.args.waiting.now c.loop-cycle.cycle _ _ _ _ _ _ _ _ inv.3
    c.in-Err.denial c.args.cycles c.loop-cycle-test.true (c.in-Err.ensures k quotient remainder)

pub overflow_add-pass : goal.overflow_add-pass
overflow_add-pass g c =
    let small : c.loop-cycle.row < c.args.interval = c.loop-cycle.invariant.1 c.loop-cycle-test.true in
    let some : 0 < c.args.interval = omega arith in
    omega (arith, c.loop-cycle.invariant.0, le-mul_of_pos_right c.loop-cycle.pass some, c.loop-cycle-test.true, c.requires.soon)

pub loop-cycle-preserved : goal.loop-cycle-preserved
loop-cycle-preserved g c =
    let scheme = g.S.Scheme.meaning c.args.self.now.program.scheme.now in
    let k = c.args.interval in
    let pass = c.loop-cycle.pass in
    let row = c.loop-cycle.row in
    let inv = c.loop-cycle.invariant in
    let small : row < k = inv.1 c.loop-cycle-test.true in
    let quotient : c.loop-cycle.cycle / k ≡ pass = ap (λ n. n / k) (sym inv.0) ∙ div-mul-add pass k row small in
    let remainder : c.loop-cycle.cycle % k ≡ row = ap (λ n. n % k) (sym inv.0) ∙ mod-mul-add pass k row small in
    let running = one_more g.D.Domain.operations (units_of c.args.self.now.program.held.hardware.now.units) k c.args.self.now.trips scheme.file
    (form_of scheme.resolve c.args.self.now.program.held.hardware.now.timings k (g.C.Code.form c.args.self.now.program.code.now))
    c.args.memory.now c.args.values.now c.args.waiting.now c.loop-cycle.cycle _ _ _ _ _ _ _ _ inv.3
    (c.in_default.ensures k quotient remainder) in
    let place : (c.if-row-interval.pass * k + c.if-row-interval.row ≡ c.loop-cycle.cycle + 1) × (c.if-row-interval.row < k) = elim c.if-row-interval.branch [
      | then-row-interval w ↦ rw (w.pass-is, w.row-is) (omega (arith, inv.0, add-mul pass 1 k, w.if-row-interval.true), omega arith)
      | else-row-interval w ↦ rw (w.pass-is, w.row-is) (omega (arith, inv.0), omega (arith, w.if-row-interval.false))
    ] in
    (place.0, (λ h. place.1), running.1.1.registers, running)

pub returns : goal.returns
returns g c =
    let scheme = g.S.Scheme.meaning c.args.self.now.program.scheme.now in
    let inv = c.loop-cycle.invariant in
    ends g.D.Domain.operations (units_of c.args.self.now.program.held.hardware.now.units) c.args.interval c.args.self.now.trips scheme.file
    (form_of scheme.resolve c.args.self.now.program.held.hardware.now.timings c.args.interval (g.C.Code.form c.args.self.now.program.code.now))
    c.args.memory.now c.args.values.now c.args.waiting.now c.loop-cycle.cycle _ _ _ _ inv.3 c.args.cycles (omega arith)
