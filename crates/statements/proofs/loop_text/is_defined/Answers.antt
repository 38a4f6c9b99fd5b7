use Rattle.std.proofs.Common.{sym, ◌∙◌, rules}
use Rattle.std.proofs.lemmas.Iterator.Search.{any_from_yields_List}
use Rattle.std.proofs.lemmas.Iterator.{YieldsList-from_slice}
use borrow.Author.Tests.{tests}
use Rattle.model.specs.LoopText.{same_name}
use Rattle.statements.specs.Statements.{statement_seen}
use Rattle.statements.proofs.LoopSteps.{some-map}
use Rattle.statements.proofs.loop_text.is_defined.Goals as goal

pub returns : goal.returns
returns c =
    any_from_yields_List (λ s. same_name c.args.word.now (statement_seen s).defines) _ _ c.any.result c.any.ensures.ran (YieldsList-from_slice c.args.statements.now cc) (λ x b q k. search (rules, tests))
    ∙ sym (some-map (λ s. same_name c.args.word.now s.defines) statement_seen c.args.statements.now)
