use Rattle.std.proofs.Common.{rules, ◌≡◌, ◌-◌, sym, ap, ◌∙◌, subst, arith, Decides}
use Rattle.std.specs.List.{list_all}
use Rattle.std.proofs.lemmas.List.Folds.{list_all-map}
use Rattle.std.proofs.lemmas.Iterator.Search.{all_from_yields_List}
use Rattle.std.proofs.lemmas.Iterator.{YieldsList-from_slice}
use borrow.Author.Tests.{tests}
use Rattle.model.specs.Pipelining.{InMemory}
use Rattle.dependence.specs.Operations.{operation_seen}
use Rattle.dependence.specs.Loops.{loop_seen}
use Rattle.reach.specs.Cells.{cell_held}
use Rattle.reach.proofs.Reached.{all_decide}
use Rattle.reach.proofs.reaching.cells_in_memory.Goals as goal

pub returns-else-trips-eq0 : goal.returns-else-trips-eq0
returns-else-trips-eq0 c =
    let ops = loop_seen c.args.l.now in
    let last = c.args.trips - 1 in
    let own = c.operations.result.now in
    let said : c.all.result ≡ list_all (λ o. cell_held o last c.args.cells) ops =
    all_from_yields_List (λ o. cell_held (operation_seen o) last c.args.cells) _ _ c.all.result c.all.ensures.ran (YieldsList-from_slice own cc) (λ x b q k. search (rules, tests))
    ∙ sym (list_all-map (λ o. cell_held o last c.args.cells) operation_seen own) ∙ ap (list_all (λ o. cell_held o last c.args.cells)) c.operations.ensures.operations in
    subst (λ b. Decides b (InMemory ops c.args.trips c.args.cells)) (sym said) (all_decide ops c.args.trips last c.args.cells (omega (arith, c.if-trips-eq0.false)))
