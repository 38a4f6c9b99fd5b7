use Rattle.std.proofs.Common.{refl, rules}
use Rattle.reservation.proofs.Cells.{booked}
use Rattle.reservation.proofs.table.ReservationTable.book.Goals as goal

pub invariant_of-self : goal.invariant_of-self
invariant_of-self c =
    let t = c.args.self.now in
    let done = booked t c.change.new.self.counts c.args.timing c.args.time c.in-Some.uses _ c.in-Some.ensures.1 c.change.ensures c.in-Some.ensures.0 (λ m v e h. search rules) in
    record { held = done.1; positive = t.positive; small = t.small; few = t.few }

pub returns : goal.returns
returns c =
    let done = booked c.args.self.now c.change.new.self.counts c.args.timing c.args.time c.in-Some.uses _ c.in-Some.ensures.1 c.change.ensures c.in-Some.ensures.0 (λ m v e h. search rules) in
    (c.in-Some.ensures.0, done.0, record { units = refl; interval = refl })
