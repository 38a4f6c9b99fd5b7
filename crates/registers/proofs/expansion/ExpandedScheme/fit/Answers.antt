use Rattle.std.proofs.Common.{length, refl, sym, ap, ap₂, subst, rules}
use Rattle.model.specs.Schemes.{Accepted, expanded_with}
use Rattle.register_laws.proofs.Expanded.{expanded_apart}
use Rattle.registers.specs.Views.{table}
use Rattle.registers.specs.Meanings.{expanded_meaning}
use Rattle.registers.proofs.expansion.ExpandedScheme.fit.Goals as goal

pub returns-clause-fitted : goal.returns-clause-fitted
returns-clause-fitted c =
    let t = table c.args.lives.now in
    let turns = c.turns_for-turns.ensures in
    let formula = ap₂ expanded_with (ap length c.as_slice-count.ensures.lives) turns in
    subst (λ m. Accepted (expanded_meaning c.args.self.now) m m.place t c.turns_for-turns.result) (sym formula)
    (record { within = search rules; turns = turns; variables = refl; file = refl; need = refl; apart = expanded_apart t c.args.lives.now.limits })
