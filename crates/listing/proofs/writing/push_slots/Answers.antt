use Rattle.std.proofs.Common.{◌≡◌, length, arith}
use Rattle.listing.proofs.Bodies.{known_at}
use Rattle.listing.proofs.Appending.{issuing_yes, issuing_no, issuing_all, issuing_room}
use Rattle.listing.proofs.writing.push_slots.Goals as goal
use Rattle.listing.proofs.writing.push_slots.Goals.{then-issues, else-issues}

pub slot-requires-clause-known : goal.slot-requires-clause-known
slot-requires-clause-known g c =
    known_at c.args.body.now c.placed-placed-items.result.now c.placed-placed-items.ensures c.loop-placed.placed-index c.placed-item.result c.loop-placed-test.true c.placed-item.is

pub push_reserved-requires : goal.push_reserved-requires
push_reserved-requires g c =
    issuing_room c.args.body.now g.S.Scheme.meaning c.args.place c.args.row c.placed-placed-items.result.now c.placed-placed-items.ensures
    c.loop-placed.placed-index c.placed-item.result c.loop-placed-test.true c.placed-item.is
    c.args.slots.now c.loop-placed.slots c.loop-placed.invariant c.if-issues.ensures c.requires

pub loop-placed-preserved : goal.loop-placed-preserved
loop-placed-preserved g c =
    let b = c.args.body.now in
    let m = g.S.Scheme.meaning in
    let ps = c.placed-placed-items in
    elim c.if-issues.branch [
      | then-issues w ↦
          issuing_yes b m c.args.place c.args.row ps.result.now ps.ensures c.loop-placed.placed-index c.placed-item.result c.loop-placed-test.true c.placed-item.is
          c.args.slots.now c.loop-placed.slots w.push_reserved.new.self c.if-issues.slots w.slot.result w.slots-is c.loop-placed.invariant w.if-issues.ensures
          w.push_reserved.ensures.items w.push_reserved.ensures.len w.push_reserved.ensures.capacity w.slot.ensures
      | else-issues w ↦
          issuing_no b m c.args.place c.args.row ps.result.now ps.ensures c.loop-placed.placed-index c.placed-item.result c.loop-placed-test.true c.placed-item.is
          c.args.slots.now c.loop-placed.slots c.if-issues.slots w.slots-is c.loop-placed.invariant w.if-issues.ensures
    ]

pub returns : goal.returns
returns g c =
    let end : c.loop-placed.placed-index ≡ length c.placed-placed-items.result.now = omega (arith, c.loop-placed.auto.placed-index-end, c.loop-placed-test.false) in
    let all = issuing_all c.args.body.now g.S.Scheme.meaning c.args.place c.args.row c.args.slots.now c.loop-placed.slots
    c.loop-placed.placed-index (rw c.placed-placed-items.ensures at end) c.loop-placed.invariant in
    record { items = all.items; len = all.len; capacity = all.cap }
