use Rattle.std.proofs.Common.{◌%◌, ◌∙◌, eqb, arith, rules, tests}
use Rattle.std.proofs.lemmas.Iterator.{YieldsList-from_range}
use Rattle.std.proofs.lemmas.Iterator.Consumers.{count_from_yields_List, YieldsList-at, YieldsList-from_filter}
use Rattle.std.proofs.lemmas.List.Sums.{length-filter}
use Rattle.std.specs.List.{range_with_len}
use Rattle.reservation.proofs.Cells.{counted}
use Rattle.reservation.proofs.uses.Uses.in_row.Goals as goal

pub returns-clause-value : goal.returns-clause-value
returns-clause-value c =
    let s = c.args.self.now in
    count_from_yields_List c.filter.result _ c.count.ensures.ran
    (YieldsList-from_filter _ (λ x. eqb (x % s.interval) c.args.row) (YieldsList-at c.filter.ensures.source (YieldsList-from_range s.time _ s.busy c.cycles.ensures (omega arith))) c.filter.ensures.closure (λ x r q k. search (rules, tests)))
    ∙ (length-filter (λ x. eqb (x % s.interval) c.args.row) (range_with_len s.time s.busy) ∙ counted s.interval s.time s.busy c.args.row)
