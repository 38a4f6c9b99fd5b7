use Rattle.std.proofs.Common.{refl, rules}
use Rattle.reservation.proofs.Cells.{released}
use Rattle.reservation.proofs.table.ReservationTable.release.Goals as goal

pub invariant_of-self : goal.invariant_of-self
invariant_of-self c =
    let t = c.args.self.now in
    let done = released t c.change.new.self.counts c.args.timing c.args.time c.in-Some.uses _ c.in-Some.ensures c.change.ensures (c.if-not-holds.ensures.0 refl) (λ m v e. search rules) in
    record { held = done.2; positive = t.positive; small = t.small; few = t.few }

pub returns : goal.returns
returns c =
    let done = released c.args.self.now c.change.new.self.counts c.args.timing c.args.time c.in-Some.uses _ c.in-Some.ensures c.change.ensures (c.if-not-holds.ensures.0 refl) (λ m v e. search rules) in
    (done.0, done.1, record { units = refl; interval = refl })
