use Rattle.std.proofs.Common.{◌≡◌, sum_by, sym, ◌∙◌, ap, rules}
use Rattle.model.specs.Schemes.{width, widths}
use Rattle.registers.proofs.Layouts.{widths_sum, widths_fit}
use Rattle.registers.proofs.rotating.Rotating.need.Goals as goal

pub sum-requires-clause-fits : goal.sum-requires-clause-fits
sum-requires-clause-fits c =
    let fits = widths_fit c.args.lives.now.interval c.as_slice.result.now c.as_slice.ensures.each c.as_slice.ensures.few in
    search rules

pub returns : goal.returns
returns c =
    let k = c.args.lives.now.interval in
    let total : c.sum.result ≡ sum_by (width k) c.as_slice.result.now = search rules in
    total ∙ sym (widths_sum k c.as_slice.result.now) ∙ ap (widths k) c.as_slice.ensures.lives
