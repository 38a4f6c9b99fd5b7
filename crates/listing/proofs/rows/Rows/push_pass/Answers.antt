use Rattle.std.proofs.Common.{◌≡◌, ℕ, List, [], ◌∷◌, subst, arith}
use Rattle.model.specs.Edges.{each}
use Rattle.model.specs.Listing as listings
use Rattle.model.specs.Listing.{rows_of_pass}
use Rattle.listing.specs.Rows.{slots_of_row}
use Rattle.listing.specs.Kept.{Appended}
use Rattle.listing.proofs.Appending.{append_next, room_next}
use Rattle.listing.proofs.rows.Rows.push_pass.Goals as goal

pub push_row-requires : goal.push_row-requires
unfolding rows_of_pass
push_row-requires g c =
    let f : ℕ → List (List listings.Slot) = λ r. slots_of_row c.args.body.now g.S.Scheme.meaning c.args.place r ∷ [] in
    room_next f c.args.self.now c.loop-row.self c.loop-row.row c.args.body.now.schedule.interval c.loop-row-test.true c.requires c.loop-row.invariant

pub loop-row-preserved : goal.loop-row-preserved
loop-row-preserved g c =
    let f : ℕ → List (List listings.Slot) = λ r. slots_of_row c.args.body.now g.S.Scheme.meaning c.args.place r ∷ [] in
    append_next f c.args.self.now c.loop-row.self c.push_row.new.self c.loop-row.row c.loop-row.invariant c.push_row.ensures

pub returns : goal.returns
unfolding rows_of_pass
returns g c =
    let f : ℕ → List (List listings.Slot) = λ r. slots_of_row c.args.body.now g.S.Scheme.meaning c.args.place r ∷ [] in
    let end : c.loop-row.row ≡ c.args.body.now.schedule.interval = omega (arith, c.loop-row.auto.row-end, c.loop-row-test.false) in
    subst (λ n. Appended c.args.self.now c.loop-row.self (each f n)) end c.loop-row.invariant
