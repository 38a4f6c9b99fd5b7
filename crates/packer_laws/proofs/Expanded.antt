-- The call expand keeps the guarantee. Assumes nothing.
use Rattle.std.proofs.Common.{◌≡◌, ℕ, ◌<◌, ◌≤◌, cond, ◌&&◌, leb, length, Some, None, Ok, Err, Option, Result, sym, ◌∙◌, subst, inl, inr, arith}
use Rattle.model.specs.declared.Parts.{Parts}
use Rattle.std.proofs.lemmas.Bool.{cases_Bool, cases_lt, leb-true, le-leb, and_parts}
use Rattle.model.specs.Schedule.{Schedule, stages}
use Rattle.model.specs.Loop.{Loop}
use Rattle.model.specs.Schemes.{Meaning}
use Rattle.model.specs.Domains.{Domain}
use Rattle.listing.specs.declared.refusal.Unwritable.{Unwritable}
use Rattle.listing.specs.declared.refusal.Unwritable.TheVariants.{Interval, Turns, Trips, Stages}
use Rattle.listing.specs.Written.{Is, within, complaint}
use Rattle.schedule.specs.Answers.{schedule_of}
use Rattle.guarantee.specs.Calls.{expand, plan_in, ListedBody, listing_in, Planned, expanded, refused, not_standing, many_trips}
use Rattle.guarantee.specs.Guarantees.{PlanHolds, listing_of, Guaranteed}
use Rattle.guarantee.proofs.Steps.{known_plan, expand_early, expand_refused, expand_accepted}
use Rattle.texts.specs.Records.{machine_seen}
use Rattle.dependence.specs.Loops.{loop_seen}
use Rattle.standing.specs.declared.Desk.{Desk}
use Rattle.standing.specs.declared.Plan.{Plan}
use Rattle.standing.specs.declared.Standing.{Standing}
use Rattle.standing.specs.declared.Standing.TheVariants as own
use Rattle.standing.specs.Seen.{standing_seen, slots_held, plan_seen, plan_known, planned_seen}
use Rattle.standing.specs.declared.PackFault.{PackFault}
use Rattle.standing.specs.Works.{WrittenBy, Writes}
use Rattle.packer_laws.specs.States.{state, expand_answer, Whole, Kept}
use Rattle.packer_laws.proofs.Texts.{still}

inside : (low x high : ℕ) (rest : Option Unwritable) (c : Unwritable) → low ≤ x → x ≤ high → within low x high rest c ≡ rest
inside low x high rest c a b = rw (le-leb low x a) (rw (le-leb x high b))

from_within : (low x high : ℕ) (rest : Option Unwritable) (c : Unwritable) → within low x high rest c ≡ None → (low ≤ x) × (x ≤ high) × (rest ≡ None)
from_within low x high rest c e = elim (cases_Bool (leb low x && leb x high)) [
  | inl t ↦ let b = and_parts (leb low x) (leb x high) t in (leb-true low x b.0, leb-true x high b.1, subst (λ y. cond y rest (Some c) ≡ None) t e)
  | inr t ↦ let none : Some c ≡ None = subst (λ y. cond y rest (Some c) ≡ None) t e in let z : ◌≡◌ {A = ℕ} 0 1 = cc in absurd (omega arith)
]

-- no complaint: at most 4,096 trips
few_trips : (ops : Loop) (w : Schedule) (turns trips : ℕ) → complaint ops w turns trips ≡ None → trips ≤ 4096
few_trips ops w turns trips e =
    let a = from_within 1 w.interval 256 _ Interval e in
    let b = from_within 1 turns 8 _ Turns a.2 in
    (from_within 0 trips 4096 _ Trips b.2).1

-- of a plan that holds there is none but for too many trips
no_complaint : (scheme : Meaning) (p : Plan) (trips : ℕ) → PlanHolds scheme (machine_seen p.body.machine) (loop_seen p.body.source) (planned_seen p.scheduled) → trips ≤ 4096 →
    complaint (loop_seen p.body.source) (schedule_of p.scheduled) p.scheduled.choice.turns trips ≡ None
no_complaint scheme p trips holds few =
    let w : Schedule = schedule_of p.scheduled in
    let turns = holds.turns in
    let lawful = holds.lives.lawful in
    inside 1 w.interval 256 _ Interval (omega (arith, holds.sound.is_schedule.positive)) holds.sound.short ∙
    inside 1 p.scheduled.choice.turns 8 _ Turns (omega (arith, lawful.some_turns)) (omega (arith, lawful.few_turns)) ∙
    inside 0 trips 4096 _ Trips (omega arith) few ∙ inside 0 (stages w (length (loop_seen p.body.source))) 8 None Stages (omega arith) holds.sound.eight

listed_one : (a b : ListedBody Planned) → Some a ≡ Some b → a ≡ b
listed_one a b e = cc

listed_now : (s : Standing) (p : Plan) (trips : ℕ) (l : ListedBody Planned) → s ≡ own.Listing p trips → listing_in (standing_seen s) ≡ Some l →
    record { machine = machine_seen p.body.machine; ops = loop_seen p.body.source; plan = planned_seen p.scheduled; trips = trips } ≡ l
listed_now s p trips l e h = listed_one _ l (subst (λ x. listing_in (standing_seen x) ≡ Some l) e h)

module _ {S V : Type 0} (meaning : S → Meaning) (place : S → ℕ → ℕ → ℕ) (dom : Domain V) (scheme : S) (before after : Desk) (trips : ℕ) where
  module _ (p : Plan) (known : plan_known (Some p) ≡ plan_in (standing_seen before.standing)) where
    written : WrittenBy before after p (meaning scheme).name trips (Ok tt) → after.standing ≡ own.Listing p trips →
        Kept meaning place dom scheme before (expand trips) (expanded after.listing.parts) (expand trips) scheme after
    written said stands w =
        let is = said.1 in
        let goal = expand_accepted meaning place dom (state scheme before) w.sound trips (plan_seen p) _ (sym known)
        (few_trips (loop_seen p.body.source) (schedule_of p.scheduled) p.scheduled.choice.turns trips said.0) is.slots in
        let parts = is.parts in
        let same : record { stands = standing_seen (own.Listing p trips); scheme = scheme; slots = slots_held (own.Listing p trips) after.listing } ≡ state scheme after = cc in
        let told = subst (λ x. Guaranteed meaning place dom (state scheme before) (expand trips) (expanded x) (expand trips) (state scheme after)) (sym parts)
        (subst (Guaranteed meaning place dom (state scheme before) (expand trips) _ (expand trips)) same goal) in (
          told,
          record {
            sound = told.sound;
            written = λ l h.
                subst (λ x. Is after.listing (listing_of (meaning scheme) x.ops x.plan x.trips)) (listed_now after.standing p trips l stands h) is;
          },
        )

    unwritten : (e : Unwritable) → WrittenBy before after p (meaning scheme).name trips (Err e) → after.standing ≡ before.standing → after.listing ≡ before.listing →
        Kept meaning place dom scheme before (expand trips) (refused many_trips) (expand trips) scheme after
    unwritten e said st li w =
        let plan = known_plan (meaning scheme) _ (standing_seen before.standing) (plan_seen p) w.sound (sym known) in
        let many : 4096 < trips = elim (cases_lt 4096 trips) [
          | inl h ↦ h
          | inr h ↦ let none = no_complaint (meaning scheme) p trips plan.holds h in let some = said.0 in let z : ◌≡◌ {A = ℕ} 0 1 = cc in absurd (omega arith)
        ] in
        still meaning place dom scheme before after (expand trips) (refused many_trips) st li w
        (expand_refused meaning place dom (state scheme before) w.sound trips (plan_seen p) (sym known) many)

  pub expand_kept : (r : Result Parts PackFault) → Writes before after (meaning scheme).name trips r → Kept meaning place dom scheme before (expand trips) (expand_answer r) (expand trips) scheme after
  expand_kept (Ok parts) said w =
      subst (λ x. Guaranteed meaning place dom (state scheme before) (expand trips) (expanded x) (expand trips) (state scheme after) × Whole meaning place dom scheme after) (sym said.1.4)
      (written said.0 said.1.0 said.1.1 said.1.2 w)
  expand_kept (Err f) said w = elim said.1 [
    | inl n ↦ subst (λ x. Guaranteed meaning place dom (state scheme before) (expand trips) (refused x) (expand trips) (state scheme after) × Whole meaning place dom scheme after) (sym n.1)
        (still meaning place dom scheme before after (expand trips) (refused not_standing) said.0.0 said.0.2 w (expand_early meaning place dom (state scheme before) w.sound trips (sym n.0)))
    | inr y ↦ subst (λ x. Guaranteed meaning place dom (state scheme before) (expand trips) (refused x) (expand trips) (state scheme after) × Whole meaning place dom scheme after) (sym y.1.1)
        (unwritten y.0 y.1.0 y.1.2.0 y.1.2.1 said.0.0 said.0.2 w)
  ]
