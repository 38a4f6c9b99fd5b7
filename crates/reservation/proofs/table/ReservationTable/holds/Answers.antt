use Rattle.std.proofs.Common.{◌≡◌, ◌%◌, ◌∙◌, sym, leb, arith, rules, tests}
use Rattle.std.proofs.lemmas.Iterator.{YieldsList-from_range}
use Rattle.std.proofs.lemmas.Iterator.Search.{all_from_yields_List}
use Rattle.std.specs.List.{range_with_len, list_all}
use Rattle.model.specs.Schedule.{uses}
use Rattle.reservation.specs.Views.{count}
use Rattle.reservation.proofs.Cells.{has_from, has_each}
use Rattle.reservation.proofs.table.ReservationTable.holds.Goals as goal

pub returns : goal.returns
returns c =
    let u = c.args.uses.now in
    let t = c.args.self.now in
    let is : c.all.result ≡ list_all (λ x. leb (uses u.interval u.time u.busy (x % u.interval)) (count t u.class (x % u.interval))) (range_with_len u.time u.busy) =
    all_from_yields_List (λ x. leb (uses u.interval u.time u.busy (x % u.interval)) (count t u.class (x % u.interval))) _ _ c.all.result c.all.ensures.ran (YieldsList-from_range u.time _ u.busy c.cycles.ensures (omega arith)) (λ x b q k. search (rules, tests)) in
    ((λ yes. has_from u.interval u.class u.time u.busy (count t) (sym is ∙ yes)), (λ has. is ∙ has_each u.interval u.class u.time u.busy (count t) u.some u.most has))
