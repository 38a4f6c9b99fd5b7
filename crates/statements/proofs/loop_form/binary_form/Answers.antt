use Rattle.std.proofs.Common.{codes, refl, sym, ap, ◌∙◌, rules, arith}
use Rattle.std.specs.Str.{bytes_eq}
use Rattle.model.specs.Lines.{fits, fixed, a_name}
use Rattle.reader.specs.Seen.{seen}
use Rattle.reader.proofs.Walk.{by_five}
use Rattle.statements.specs.Forms.{binary_word}
use Rattle.statements.proofs.Finding.{all_five, operand_fits}
use Rattle.statements.proofs.loop_form.binary_form.Goals as goal

pub returns : goal.returns
returns c =
    let row = by_five c.args.row.now c.name-item.result c.equals-item.result c.code-item.result c.left-item.result c.right-item.result
    c.name-item.is c.equals-item.is c.code-item.is c.left-item.is c.right-item.is (omega arith) in
    let fine =
    all_five (fits a_name (seen c.name-item.result)) (fits (fixed (codes "=")) (seen c.equals-item.result)) (fits (fixed (binary_word c.args.operator)) (seen c.code-item.result)) _ _
    c.in_ok-name.ensures.0 (ap (bytes_eq (seen c.code-item.result).bytes) (sym c.word_of.ensures) ∙ sym c.says.ensures ∙ c.if-not-says.false)
    (operand_fits c.left-item.result c.in_ok-left.left (search rules)) (operand_fits c.right-item.result c.in_ok-right.right (search rules)) in
    simp row (fine, refl, (search rules, search rules, search rules))
