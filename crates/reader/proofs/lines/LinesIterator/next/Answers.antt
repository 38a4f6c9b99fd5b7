use Rattle.std.proofs.Common.{◌≡◌, ◌∷◌, length, take, ap, ◌∙◌, zero-add, arith}
use Rattle.std.proofs.lemmas.Grind.{common_steps}
use Rattle.std.specs.List.{prefix_len}
use Rattle.model.specs.Lines.{lines, numbered}
use Rattle.reader.specs.Seen.{inside}
use Rattle.reader.proofs.Cuts.{cut}
use Rattle.reader.proofs.lines.LinesIterator.next.Goals as goal

pub returns-clause-steps : goal.returns-clause-steps
returns-clause-steps c =
    let s = c.args.self.now.rest.now in
    let end : c.line_end-end.result ≡ prefix_len inside s = c.line_end-end.ensures.value ∙ zero-add _ in
    let parts : lines s ≡ take c.line_end-end.result s ∷ lines c.tail-self.result.now = rw (c.tail-self.ensures, end) (cut s (grind (arith, common_steps))) in
    ap (numbered c.args.self.now.number) parts

pub returns-clause-goes : goal.returns-clause-goes
returns-clause-goes c =
    let s = c.args.self.now.rest.now in
    let end : c.line_end-end.result ≡ prefix_len inside s = c.line_end-end.ensures.value ∙ zero-add _ in
    let parts : lines s ≡ take c.line_end-end.result s ∷ lines c.tail-self.result.now = rw (c.tail-self.ensures, end) (cut s (grind (arith, common_steps))) in
    let less = ap (λ ls. length (numbered c.args.self.now.number ls)) parts in
    record { on = λ _. (tt, tt, omega arith); keeps = tt; rests = λ _. tt }
