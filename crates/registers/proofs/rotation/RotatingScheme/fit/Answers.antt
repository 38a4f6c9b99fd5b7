use Rattle.std.proofs.Common.{◌≤◌, refl, sym, subst, arith}
use Rattle.model.specs.Schemes.{Accepted, rotating_need}
use Rattle.register_laws.proofs.Rotating.{rotating_apart}
use Rattle.registers.specs.Views.{table}
use Rattle.registers.specs.Meanings.{rotating_meaning}
use Rattle.registers.proofs.rotation.RotatingScheme.fit.Goals as goal

pub returns-clause-fitted : goal.returns-clause-fitted
returns-clause-fitted c =
    let t = table c.args.lives.now in
    let within : rotating_need t ≤ 64 = omega arith in
    subst (λ m. Accepted (rotating_meaning c.args.self.now) m m.place t 1) (sym c.laid_out-need.ensures.meaning)
    (record { within = within; turns = refl; variables = refl; file = refl; need = refl; apart = rotating_apart t c.args.lives.now.limits within })
