use Rattle.std.proofs.Common.{vec_items, ap, ◌∙◌}
use Rattle.guarantee.specs.Calls.{loop_in}
use Rattle.standing.specs.Seen.{standing_seen, body_seen}
use Rattle.standing.proofs.Same.{told_edges}
use Rattle.standing.proofs.desk.Desk.edges.Goals as goal

pub returns-in-Loop : goal.returns-in-Loop
returns-in-Loop c =
    let d = c.args.self.now in
    c.as_slice.ensures ∙ told_edges (loop_in (standing_seen d.standing)) (vec_items d.edges.list) (body_seen c.in-Loop.field-0) d.tied (ap (λ x. loop_in (standing_seen x)) c.in-Loop.is)

pub returns-in-Plan : goal.returns-in-Plan
returns-in-Plan c =
    let d = c.args.self.now in
    c.as_slice-in-Plan.ensures ∙ told_edges (loop_in (standing_seen d.standing)) (vec_items d.edges.list) (body_seen c.in-Plan.field-0.body) d.tied (ap (λ x. loop_in (standing_seen x)) c.in-Plan.is)

pub returns-in-Listing : goal.returns-in-Listing
returns-in-Listing c =
    let d = c.args.self.now in
    c.as_slice-in-Listing.ensures ∙ told_edges (loop_in (standing_seen d.standing)) (vec_items d.edges.list) (body_seen c.in-Listing.field-0.body) d.tied (ap (λ x. loop_in (standing_seen x)) c.in-Listing.is)
