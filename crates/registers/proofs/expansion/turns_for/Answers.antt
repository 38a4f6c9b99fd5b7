use Rattle.std.proofs.Common.{◌≡◌, max, map, fold, ◌∙◌, ap, rules}
use Rattle.model.specs.Schemes.{want, greatest_want}
use Rattle.registers.proofs.Expansions.{greatest_is}
use Rattle.registers.proofs.expansion.turns_for.Goals as goal

pub returns : goal.returns
returns c =
    let k = c.args.lives.now.interval in
    let ls = c.as_slice.result.now in
    let most : c.fold.result ≡ fold max 1 (map (want k) ls) = search rules in
    most ∙ greatest_is k ls ∙ ap (greatest_want k) c.as_slice.ensures.lives
