use Rattle.std.proofs.Common.{◌≡◌, List, None, Ok, Err, sym, ap, ◌∙◌}
use Rattle.statements.specs.declared.statement.Statement.{Statement}
use Rattle.std.proofs.lemmas.Result.{err_from_is_err_and}
use Rattle.model.specs.Questions.{no_or, reading}
use Rattle.model.specs.LoopText.{loop_rules, loop_of, on_ok, uses_of}
use Rattle.model.specs.Faults.{on_err, text_fault}
use Rattle.model.specs.Soundness.{sound_loop}
use Rattle.text_laws.proofs.SoundLoops.{is_sound_loop}
use Rattle.statements.specs.Records.{statements_seen}
use Rattle.statements.specs.Statements.{all_seen}
use Rattle.dependence.specs.Faults.{fault}
use Rattle.dependence.specs.Loops.{loop_answered}
use Rattle.dependence.specs.Known.{uses_known}
use Rattle.dependence.proofs.Split.{refused_before, then_seven, same_fault, by_seven, passed_seven}
use Rattle.dependence.proofs.loops.Loop.read.Goals as goal

asked : {xs ys : List Statement} → xs ≡ ys → no_or 7 (uses_known (all_seen xs) (uses_of (all_seen xs))) None ≡ no_or 7 (uses_known (all_seen ys) (uses_of (all_seen ys))) None
asked e = ap (λ ss. no_or 7 (uses_known (all_seen ss) (uses_of (all_seen ss))) None) e

pub returns-in_err-statements : goal.returns-in_err-statements
returns-in_err-statements c =
    let p = err_from_is_err_and c.from_residual.result c.from_residual.ensures.1 in
    let text = c.args.text.now in
    ap loop_answered p.1 ∙ ap (λ f. Err (fault f)) p.2 ∙ ap Err (same_fault c.in_err-statements.field-0.0)
    ∙ sym (ap (λ r. on_err text_fault (on_ok loop_of r)) (refused_before text _ c.in_err-statements.ensures))

pub returns-in_err-check_uses : goal.returns-in_err-check_uses
returns-in_err-check_uses c =
    let p = err_from_is_err_and c.from_residual-in_err-check_uses.result c.from_residual-in_err-check_uses.ensures.1 in
    let s = statements_seen c.in_ok-statements.statements in
    ap loop_answered p.1 ∙ ap (λ f. Err (fault f)) p.2
    ∙ by_seven s c.in_err-check_uses.field-0.0 (c.in_err-check_uses.ensures ∙ asked c.as_slice.ensures.items)
    ∙ sym (ap (λ r. on_err text_fault (on_ok loop_of r)) (then_seven c.args.text.now s c.in_ok-statements.ensures))

pub invariant_of-result : goal.invariant_of-result
invariant_of-result c =
    let text = c.args.text.now in
    let s = statements_seen c.in_ok-statements.statements in
    let read : reading loop_rules text ≡ Ok s = then_seven text s c.in_ok-statements.ensures ∙ passed_seven s (c.in_ok-check_uses.ensures ∙ asked c.as_slice.ensures.items) in
    record { sound = ap sound_loop c.resolve_all.ensures ∙ is_sound_loop text s read }

pub returns : goal.returns
returns c =
    let text = c.args.text.now in
    let s = statements_seen c.in_ok-statements.statements in
    let read : reading loop_rules text ≡ Ok s = then_seven text s c.in_ok-statements.ensures ∙ passed_seven s (c.in_ok-check_uses.ensures ∙ asked c.as_slice.ensures.items) in
    ap Ok c.resolve_all.ensures ∙ sym (ap (λ r. on_err text_fault (on_ok loop_of r)) read)
