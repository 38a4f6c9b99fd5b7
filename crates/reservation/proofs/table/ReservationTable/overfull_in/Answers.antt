use Rattle.std.proofs.Common.{◌%◌, ◌∙◌, arith, rules, tests}
use Rattle.std.proofs.lemmas.Iterator.{YieldsList-from_range}
use Rattle.std.proofs.lemmas.Iterator.Search.{any_from_yields_List}
use Rattle.reservation.specs.Uses.{overfull_by}
use Rattle.reservation.proofs.Cells.{some_of}
use Rattle.reservation.proofs.table.ReservationTable.overfull_in.Goals as goal

pub returns : goal.returns
returns c =
    let u = c.args.uses.now in
    let v = c.args.others.now in
    any_from_yields_List (λ x. overfull_by c.args.self.now u (x % u.interval)) _ _ _ c.any.ensures.ran (YieldsList-from_range v.time _ v.busy c.cycles.ensures (omega arith)) (λ x b q k. search (rules, tests))
    ∙ some_of (λ x. overfull_by c.args.self.now u (x % u.interval)) v.time v.busy
