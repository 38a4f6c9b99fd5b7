use Rattle.std.proofs.Common.{◌≡◌, length, sym, ap, arith}
use Rattle.std.proofs.lemmas.Bool.Decides.{nat_tests}
use Rattle.registers.specs.Views.{table}
use Rattle.guest_scheme.specs.Lane.{lanes_turns}
use Rattle.guest_scheme.proofs.Short.{accepts}
use Rattle.guest_scheme.proofs.lane_scheme.LanesScheme.fit.Goals as goal

pub returns-else-is_empty : goal.returns-else-is_empty
returns-else-is_empty c =
    let n = length c.as_slice.result.now in
    let eight : 8 ≡ lanes_turns n = grind (arith, nat_tests) in
    accepts c.args.self.now.variables n 8 (table c.args.lives.now) c.as_slice.ensures.limits (ap length c.as_slice.ensures.lives) (sym c.if-not-all_short.ensures) eight
