-- What a schedule of the edges on the desk is. Assumes nothing.
use Rattle.std.proofs.Common.{◌≡◌, ℕ, List, Some, vec_items, sym, subst}
use Rattle.model.specs.declared.Edge.{Edge}
use Rattle.model.specs.Schemes.{Meaning, Lawful}
use Rattle.schedule.specs.declared.Scheduled.{Scheduled}
use Rattle.schedule.specs.Answers.{Success}
use Rattle.texts.specs.Records.{machine_seen}
use Rattle.dependence.specs.Loops.{loop_seen}
use Rattle.guarantee.specs.Calls.{loop_in}
use Rattle.guarantee.specs.Guarantees.{PlanHolds}
use Rattle.guarantee.proofs.Plans.{plan_holds}
use Rattle.standing.specs.declared.desk.Desk.{Desk}
use Rattle.standing.specs.declared.plan.Body.{Body}
use Rattle.standing.specs.Seen.{standing_seen, body_seen, body_known, planned_seen}
use Rattle.standing.specs.Tied.{edges_in}
use Rattle.standing.proofs.Same.{tied_edges}

-- the edges on the desk are those of the loop that stands on it
pub desk_edges : (desk : Desk) (b : Body) → body_known (Some b) ≡ loop_in (standing_seen desk.standing) → vec_items desk.edges.list ≡ edges_in (body_seen b)
desk_edges desk b e = tied_edges (loop_in (standing_seen desk.standing)) (vec_items desk.edges.list) (body_seen b) desk.tied (sym e)

-- a schedule of the loop's edges holds
pub success_holds : {S : Type 0} (meaning : S → Meaning) (place : S → ℕ → ℕ → ℕ) (lawful : (s : S) → Lawful (meaning s)) (placed : (s : S) → (meaning s).place ≡ place s)
    (b : Body) (es : List Edge) (before after : S) (p : Scheduled) → es ≡ edges_in (body_seen b) →
    Success meaning place (machine_seen b.machine) (loop_seen b.source) es before after p → PlanHolds (meaning after) (machine_seen b.machine) (loop_seen b.source) (planned_seen p)
success_holds meaning place lawful placed b es before after p tied s =
    let said = subst (λ x. Success meaning place (machine_seen b.machine) (loop_seen b.source) x before after p) tied s in
    plan_holds (machine_seen b.machine) (loop_seen b.source) b.machine.sound b.source.sound (planned_seen p) (meaning before) (meaning after) (place after)
    (lawful after) (placed after) said.plan said.evidence said.stages said.fitted
