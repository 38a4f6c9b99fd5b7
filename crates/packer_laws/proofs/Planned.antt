-- The call plan keeps the guarantee. Assumes nothing.
use Rattle.std.proofs.Common.{◌≡◌, ℕ, [], Some, None, Ok, Err, vec_items, Result, sym, ap, subst, inl, inr, arith}
use Rattle.model.specs.Faults.{Fault}
use Rattle.model.specs.Schemes.{Meaning, Lawful}
use Rattle.model.specs.Domains.{Domain}
use Rattle.graph_laws.proofs.Fits.{edges_fit}
use Rattle.graph_laws.proofs.Around.{no_standing_circuit}
use Rattle.schedule.specs.declared.Scheduled.{Scheduled}
use Rattle.schedule.specs.declared.NoSchedule.{NoSchedule}
use Rattle.schedule.specs.declared.NoSchedule.TheVariants.{NotTaken, Outside, Standing as StandingCircuit}
use Rattle.schedule.specs.Answers.{Success, NoneTaken, ScheduleOf}
use Rattle.guarantee.specs.Calls.{plan, with_plan, loop_in, listing_in, planned, refused, not_standing, no_schedule}
use Rattle.guarantee.specs.Guarantees.{Guaranteed}
use Rattle.guarantee.proofs.OnTexts.{on_machine}
use Rattle.guarantee.proofs.Steps.{plan_early, plan_refused, plan_accepted}
use Rattle.texts.specs.Records.{machine_seen}
use Rattle.dependence.specs.Loops.{loop_seen}
use Rattle.standing.specs.declared.Desk.{Desk}
use Rattle.standing.specs.declared.Body.{Body}
use Rattle.standing.specs.Seen.{standing_seen, body_seen, body_known, planned_seen}
use Rattle.standing.specs.declared.PackFault.{PackFault}
use Rattle.standing.specs.Works.{Schedules}
use Rattle.standing.proofs.Held.{desk_edges}
use Rattle.packer_laws.specs.States.{state, plan_answer, Whole, Kept}
use Rattle.packer_laws.proofs.Texts.{no_slots, still}

module _ {S V : Type 0} (meaning : S → Meaning) (place : S → ℕ → ℕ → ℕ) (dom : Domain V) (lawful : (s : S) → Lawful (meaning s)) (placed : (s : S) → (meaning s).place ≡ place s)
    (scheme scheme' : S) (before after : Desk) where
  -- for the scheme that is as it was
  kept_scheme : (f : Fault) → scheme' ≡ scheme → after.standing ≡ before.standing → after.listing ≡ before.listing → Whole meaning place dom scheme before →
      Guaranteed meaning place dom (state scheme before) plan (refused f) plan (state scheme before) →
      Guaranteed meaning place dom (state scheme before) plan (refused f) plan (state scheme' after) × Whole meaning place dom scheme' after
  kept_scheme f e st li w goal =
      subst (λ y. Guaranteed meaning place dom (state scheme before) plan (refused f) plan (state y after) × Whole meaning place dom y after) (sym e)
      (still meaning place dom scheme before after plan (refused f) st li w goal)

  taken : (b : Body) (p : Scheduled) → body_known (Some b) ≡ loop_in (standing_seen before.standing) →
      Success meaning place (machine_seen b.machine) (loop_seen b.source) (vec_items before.edges.list) scheme scheme' p →
      standing_seen after.standing ≡ with_plan (machine_seen b.machine) (loop_seen b.source) (planned_seen p) →
      Kept meaning place dom scheme before plan (planned (planned_seen p)) plan scheme' after
  taken b p e s stands w =
      let said = subst (λ x. Success meaning place (machine_seen b.machine) (loop_seen b.source) x scheme scheme' p) (desk_edges before b e) s in
      let goal = plan_accepted meaning place dom (state scheme before) w.sound (body_seen b) scheme' (planned_seen p) (sym e) b.machine.sound b.source.sound
      (lawful scheme') (placed scheme') said.plan said.evidence said.stages said.fitted in
      let none : listing_in (standing_seen after.standing) ≡ None = ap listing_in stands in
      let slots = no_slots after.standing after.listing none in
      let same : record { stands = with_plan (machine_seen b.machine) (loop_seen b.source) (planned_seen p); scheme = scheme'; slots = [] } ≡ state scheme' after = cc in
      let kept = subst (Guaranteed meaning place dom (state scheme before) plan (planned (planned_seen p)) plan) same goal in
      (kept, record { sound = kept.sound; written = λ l h. let z : ◌≡◌ {A = ℕ} 0 1 = cc in absurd (omega arith) })

  -- the edges of a loop are within the limits, and none of its circuits stands
  untaken : (b : Body) (why : NoSchedule) → body_known (Some b) ≡ loop_in (standing_seen before.standing) →
      ScheduleOf meaning place (machine_seen b.machine) (loop_seen b.source) (vec_items before.edges.list) scheme scheme' (Err why) →
      after.standing ≡ before.standing → after.listing ≡ before.listing → Kept meaning place dom scheme before plan (refused no_schedule) plan scheme' after
  untaken b NotTaken e said st li w =
      let none = subst (λ x. NoneTaken meaning (machine_seen b.machine) (loop_seen b.source) x scheme scheme') (desk_edges before b e) said in
      kept_scheme no_schedule none.same st li w (plan_refused meaning place dom (state scheme before) w.sound (body_seen b) none.lowest (sym e) none.plan)
  untaken b Outside e said st li w =
      let on = on_machine (machine_seen b.machine) (loop_seen b.source) b.machine.sound b.source.sound in
      absurd (said.0 (rw (desk_edges before b e) (edges_fit (loop_seen b.source) _ on.formed)))
  untaken b StandingCircuit e said st li w =
      let on = on_machine (machine_seen b.machine) (loop_seen b.source) b.machine.sound b.source.sound in
      let c = rw (desk_edges before b e) at said.1 in
      absurd (omega (arith, c.2, no_standing_circuit (loop_seen b.source) _ on.formed c.0 c.1))

  pub plan_kept : (r : Result Scheduled PackFault) → Schedules meaning place before after scheme scheme' r → Kept meaning place dom scheme before plan (plan_answer r) plan scheme' after
  plan_kept (Ok p) said w = taken said.0 p said.1.0 said.1.1 said.1.2 w
  plan_kept (Err f) said w = elim said.1 [
    | inl n ↦ subst (λ x. Guaranteed meaning place dom (state scheme before) plan (refused x) plan (state scheme' after) × Whole meaning place dom scheme' after) (sym n.1)
        (kept_scheme not_standing n.2 said.0.0 said.0.2 w (plan_early meaning place dom (state scheme before) w.sound (sym n.0)))
    | inr y ↦ subst (λ x. Guaranteed meaning place dom (state scheme before) plan (refused x) plan (state scheme' after) × Whole meaning place dom scheme' after) (sym y.1.1)
        (untaken y.0 y.1.2.0 y.1.0 y.1.2.1 said.0.0 said.0.2 w)
  ]
