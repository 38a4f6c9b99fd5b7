use Rattle.std.proofs.Common.{◌^◌, ◌<◌, ◌≤◌, length, arith}
use native.Mathlib.Nat.{pow-le-pow_right}
use Rattle.model.proofs.Scans.{number_parts}
use Rattle.reader.proofs.words.value_of.Goals as goal

pub digits_value-requires : goal.digits_value-requires
digits_value-requires c = let p = number_parts c.args.s.now c.requires in record { digits = p.2; few = omega arith }

pub returns : goal.returns
returns c =
    let p = number_parts c.args.s.now c.requires in
    let most : 10 ^ length c.args.s.now ≤ 10 ^ 5 = pow-le-pow_right (let z : 0 < 10 = omega arith in z) p.1 in
    record { value = c.digits_value.ensures.value; small = omega (arith, c.digits_value.ensures.small) }
