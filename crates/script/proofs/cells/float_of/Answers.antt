use Rattle.std.proofs.Common.{◌≡◌, true, Some, codes, sym, refl, ap, ◌∙◌}
use lib.Ieee.{Float, nan, of_bits, binary64, of_fields}
use Rattle.std.specs.Str.{bytes_eq}
use Rattle.std.proofs.lemmas.Bool.{cond-true}
use Rattle.script.proofs.cells.float_of.Goals as goal

no_number : of_bits binary64 9221120237041090560 ≡ nan
unfolding of_bits of_fields
no_number = refl

pub returns-then-eq : goal.returns-then-eq
returns-then-eq c =
    let t : bytes_eq c.args.s.now (codes "nan") ≡ true = ap (bytes_eq c.args.s.now) (sym c.as_slice.ensures) ∙ sym c.eq.ensures ∙ c.if-eq.true in
    ap (λ (x : Float). Some x) no_number ∙ sym (cond-true _ _ _ t)
