use Rattle.std.proofs.Common.{sym, refl, ◌∙◌, arith, rules, tests}
use Rattle.std.proofs.lemmas.Iterator.{YieldsList-from_range}
use Rattle.std.proofs.lemmas.Iterator.Search.{find_from_yields_List}
use Rattle.reservation.specs.Views.{fits_of}
use Rattle.search.proofs.Cells.{found_first, same_mapped}
use Rattle.search.proofs.slot.window.Goals as goal

pub returns : goal.returns
returns c =
    let t = c.args.table.now in
    sym (same_mapped c.find.result) ∙
    (find_from_yields_List (fits_of t c.args.timing) _ _ c.find.result c.find.ensures.ran (YieldsList-from_range c.args.from _ t.interval refl (omega arith)) (λ x b q k. search (rules, tests)) ∙
    found_first (fits_of t c.args.timing) t.interval c.args.from)
