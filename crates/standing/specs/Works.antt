-- What planning and writing answer, and what stands then.
use Rattle.std.specs.Prelude.{◌≡◌, ℕ, ◌⊎◌, Some, None, Ok, Err, vec_items, Result}
use Rattle.model.specs.declared.Parts.{Parts}
use Rattle.model.specs.Schemes.{Meaning}
use Rattle.listing.specs.declared.refusal.Unwritable.{Unwritable}
use Rattle.listing.specs.Written.{Answered}
use Rattle.schedule.specs.declared.Scheduled.{Scheduled}
use Rattle.schedule.specs.declared.NoSchedule.{NoSchedule}
use Rattle.schedule.specs.Answers.{schedule_of, ScheduleOf}
use Rattle.texts.specs.Records.{machine_seen}
use Rattle.dependence.specs.Loops.{loop_seen}
use Rattle.guarantee.specs.Calls.{with_plan, loop_in, plan_in, not_standing, no_schedule, many_trips}
use Rattle.standing.specs.declared.fault.PackFault.{PackFault}
use Rattle.standing.specs.declared.plan.Body.{Body}
use Rattle.standing.specs.declared.plan.Plan.{Plan}
use Rattle.standing.specs.declared.standing.Standing.TheVariants.{Listing}
use Rattle.standing.specs.declared.desk.Desk.{Desk}
use Rattle.standing.specs.Faults.{fault}
use Rattle.standing.specs.Seen.{standing_seen, body_known, plan_known, planned_seen}

-- All is as it was.
abbrev pub Same : Desk → Desk → Type 0
Same before after = (after.standing ≡ before.standing) × (after.edges ≡ before.edges) × (after.listing ≡ before.listing)

module _ {S : Type 0} (meaning : S → Meaning) (place : S → ℕ → ℕ → ℕ) where
  -- What the scheduling of a loop, with the edges on the desk, answers and makes of the register scheme.
  abbrev pub ScheduledBy : Desk → Body → S → S → Result Scheduled NoSchedule → Type 0
  ScheduledBy desk b scheme scheme' r = ScheduleOf meaning place (machine_seen b.machine) (loop_seen b.source) (vec_items desk.edges.list) scheme scheme' r

  -- A plan: it stands for the loop that stood; or no loop stands; or there is no schedule.
  abbrev pub Schedules : Desk → Desk → S → S → Result Scheduled PackFault → Type 0
  Schedules before after scheme scheme' (Ok p) =
      (b : Body) × ((body_known (Some b) ≡ loop_in (standing_seen before.standing)) × ScheduledBy before b scheme scheme' (Ok p) ×
      (standing_seen after.standing ≡ with_plan (machine_seen b.machine) (loop_seen b.source) (planned_seen p)) × (after.edges ≡ before.edges))
  Schedules before after scheme scheme' (Err f) =
      Same before after ×
      (((None ≡ loop_in (standing_seen before.standing)) × (fault f ≡ not_standing) × (scheme' ≡ scheme)) ⊎
      ((b : Body) × ((body_known (Some b) ≡ loop_in (standing_seen before.standing)) × (fault f ≡ no_schedule) × ((why : NoSchedule) × ScheduledBy before b scheme scheme' (Err why)))))

-- What the writing of a plan's listing, in these names, leaves.
abbrev pub WrittenBy : Desk → Desk → Plan → (ℕ → ℕ → ℕ → ℕ) → ℕ → Result (Unit {0}) Unwritable → Type 0
WrittenBy before after p name trips r =
    Answered before.listing after.listing (loop_seen p.body.source) (schedule_of p.scheduled) name p.scheduled.choice.turns trips r

-- A listing for so many trips: it stands with the plan that stood; or no plan stands; or it cannot be written.
abbrev pub Writes : Desk → Desk → (ℕ → ℕ → ℕ → ℕ) → ℕ → Result Parts PackFault → Type 0
Writes before after name trips (Ok parts) =
    (p : Plan) × ((plan_known (Some p) ≡ plan_in (standing_seen before.standing)) × WrittenBy before after p name trips (Ok tt) ×
    (after.standing ≡ Listing p trips) × (after.edges ≡ before.edges) × (parts ≡ after.listing.parts))
Writes before after name trips (Err f) =
    Same before after ×
    (((None ≡ plan_in (standing_seen before.standing)) × (fault f ≡ not_standing)) ⊎
    ((p : Plan) × ((plan_known (Some p) ≡ plan_in (standing_seen before.standing)) × (fault f ≡ many_trips) × ((e : Unwritable) × WrittenBy before after p name trips (Err e)))))
