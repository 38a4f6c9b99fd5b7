use Rattle.std.proofs.Common.{Some, None, Ok, ap, ◌∙◌}
use Rattle.few.specs.Held.{held}
use Rattle.model.specs.Questions.{no_or, unless}
use Rattle.model.specs.LoopText.{named_by, name_in, defined_by}
use Rattle.statements.specs.Statements.{all_seen}
use Rattle.statements.specs.Forms.{code_in, tokens_in}
use Rattle.statements.proofs.LoopSteps.{form_6}
use Rattle.statements.proofs.loop_text.form_line.Goals as goal

pub returns : goal.returns
returns c =
    let f = c.args.form in
    c.push.ensures
    ∙ form_6 (all_seen (held c.args.m.now.items)) c.args.line (code_in f) (tokens_in f) _ c.in_ok-action.ensures _
    (c.in_ok-defines.ensures ∙ ap (λ ss. unless (no_or 4 (named_by (all_seen ss) (Some (code_in f)) (tokens_in f)) None) (Ok (name_in (defined_by (code_in f) (tokens_in f))))) c.as_slice.ensures.items)
