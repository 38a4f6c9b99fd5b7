use Rattle.std.proofs.Common.{◌-◌, ◌%◌, ap, ◌∙◌, arith, rules}
use Rattle.reservation.proofs.Cells.{one_more}
use Rattle.reservation.proofs.rows.change_class.Goals as goal

pub loop-cycle-preserved : goal.loop-cycle-preserved
loop-cycle-preserved g c =
    let u = c.args.uses.now in
    λ r h. one_more _ u.interval u.time (c.loop-cycle.cycle - u.time) _ c.row-row.result c.step.result c.loop-cycle.counts c.args.counts.now
    (c.row-row.ensures.row ∙ ap (λ x. x % u.interval) (omega arith)) (omega arith) (search rules) c.step.ensures r (c.loop-cycle.invariant r h)
