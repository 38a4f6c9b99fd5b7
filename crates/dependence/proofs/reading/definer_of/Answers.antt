use Rattle.std.specs.Prelude.{unwrap_or}
use Rattle.std.proofs.Common.{length, ap, sym, ◌∙◌, rules}
use Rattle.std.proofs.lemmas.Iterator.Search.{position_from_yields_List}
use Rattle.std.proofs.lemmas.Iterator.{YieldsList-from_slice}
use borrow.Author.Tests.{tests}
use Rattle.model.specs.LoopText.{same_name}
use Rattle.statements.specs.Statements.{statement_seen}
use Rattle.dependence.proofs.Definers.{definer_at, or_len}
use Rattle.dependence.proofs.reading.definer_of.Goals as goal

pub returns : goal.returns
returns c =
    let xs = c.args.statements.now in
    let w = c.args.word.now in
    c.unwrap_or.ensures
    ∙ ap (λ o. unwrap_or o (length xs)) (position_from_yields_List (λ s. same_name w (statement_seen s).defines) _ _ c.position.result c.position.ensures.ran (YieldsList-from_slice xs cc) (λ x b q k. search (rules, tests)))
    ∙ or_len (λ s. same_name w (statement_seen s).defines) xs ∙ sym (definer_at w xs)
