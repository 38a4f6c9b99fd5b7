use Rattle.std.proofs.Common.{ℕ, ◌+◌, List}
use Rattle.model.specs.Listing as listings
use Rattle.listing.specs.Rows.{rows_of_place}
use Rattle.listing.proofs.Appending.{append_next, room_next}
use Rattle.listing.proofs.rows.Rows.push_part.Goals as goal

pub push_pass-requires : goal.push_pass-requires
push_pass-requires g c =
    let f : ℕ → List (List listings.Slot) = λ q. rows_of_place c.args.body.now g.S.Scheme.meaning (record { part = c.args.part; written = q; pass = c.args.first + q }) in
    room_next f c.args.self.now c.loop-written.self c.loop-written.written c.args.passes c.loop-written-test.true c.requires.room c.loop-written.invariant

pub loop-written-preserved : goal.loop-written-preserved
loop-written-preserved g c =
    let f : ℕ → List (List listings.Slot) = λ q. rows_of_place c.args.body.now g.S.Scheme.meaning (record { part = c.args.part; written = q; pass = c.args.first + q }) in
    append_next f c.args.self.now c.loop-written.self c.push_pass.new.self c.loop-written.written c.loop-written.invariant c.push_pass.ensures
