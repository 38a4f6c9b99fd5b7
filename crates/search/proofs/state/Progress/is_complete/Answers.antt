use Rattle.std.proofs.Common.{◌∙◌, is_some, refl, arith, rules, tests}
use Rattle.std.proofs.lemmas.Iterator.{YieldsList-from_range}
use Rattle.std.proofs.lemmas.Iterator.Search.{all_from_yields_List}
use Rattle.search.specs.Boards.{size, placed_on}
use Rattle.search.proofs.Cells.{all_numbers}
use Rattle.search.proofs.state.Progress.is_complete.Goals as goal

pub returns : goal.returns
returns c =
    let b = c.args.self.now.board in
    all_from_yields_List (λ q. is_some (placed_on b q)) _ _ _ c.all.ensures.ran (YieldsList-from_range 0 _ (size b) refl (omega arith)) (λ x y q k. search (rules, tests)) ∙ all_numbers (λ q. is_some (placed_on b q)) (size b)
