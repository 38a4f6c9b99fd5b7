use Rattle.std.proofs.Common.{◌≡◌, ◌^◌, ◌<◌, length, get_or, refl, subst, ℕ, arith}
use Rattle.model.specs.Shapes.{digit}
use Rattle.model.proofs.Scans.{every_here, digit_bounds, value_more, value_end, pow_more}
use Rattle.reader.proofs.words.digits_value.Goals as goal

pub overflow_sub-n : goal.overflow_sub-n
overflow_sub-n c =
    let inv = c.loop-b.invariant in
    let d = digit_bounds (get_or c.args.s.now c.loop-b.b-index 0) (every_here digit c.args.s.now c.loop-b.b-index c.loop-b-test.true inv.1).0 in
    omega arith

pub loop-b-preserved : goal.loop-b-preserved
loop-b-preserved c =
    let inv = c.loop-b.invariant in
    let i = c.loop-b.b-index in
    let w = c.args.s.now in
    let e = every_here digit w i c.loop-b-test.true inv.1 in
    let d = digit_bounds (get_or w i 0) e.0 in
    (value_more w i c.loop-b.n _ c.loop-b-test.true inv.0, e.1, inv.2, pow_more i c.loop-b.n (get_or w i 0) inv.3 d.1)

pub returns : goal.returns
returns c =
    let inv = c.loop-b.invariant in
    let all : c.loop-b.b-index ≡ length c.args.s.now = omega arith in
    let P : ℕ → Type 0 = λ i. c.loop-b.n < 10 ^ i in
    record {
      value = value_end c.args.s.now c.loop-b.b-index c.loop-b.n _ c.loop-b-test.false inv.0;
      small = subst P all inv.3;
    }

pub loop-b-init : goal.loop-b-init
loop-b-init c = (refl, c.requires.digits, c.requires.few, omega arith)
