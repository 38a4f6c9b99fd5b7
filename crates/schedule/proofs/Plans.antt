-- What is chosen is the plan.
use Rattle.std.proofs.Common.{◌≡◌, ℕ, ◌+◌, ◌<◌, ◌≤◌, List, length, get_or, Some, None, sym, refl, ap, ◌∙◌, subst, ap₂, inl, inr, arith}
use Rattle.model.specs.declared.Edge.{Edge}
use Rattle.model.specs.declared.Timing.{Timing}
use Rattle.model.specs.Loop.{Loop, Hardware, total}
use Rattle.model.specs.Schedule.{stages, sequential}
use Rattle.model.specs.Schemes.{Meaning}
use Rattle.model.specs.Lives.{Limits}
use Rattle.model.specs.Plan.{planned}
use Rattle.search_laws.proofs.Plan.{sequential_stands}
use Rattle.schedule_laws.specs.Alike.{Tells}
use Rattle.schedule_laws.specs.Ready.{heights}
use Rattle.schedule_laws.proofs.Alike.{alike_self, stages_same, table_same}
use Rattle.schedule_laws.proofs.Intervals.{from_here, plan_found, plan_next, plan_sequential, plan_refused}
use Rattle.schedule_laws.proofs.Readiness.{whole_short, sequence_is, sequence_limits}
use Rattle.timing.specs.declared.Schedule.{Schedule as OwnSchedule}
use Rattle.timing.specs.Seen.{schedule_seen}
use Rattle.lives.specs.Schedules.{latencies, Short, SequenceOf}
use Rattle.schedule.specs.declared.choice.Choice.{Choice}
use Rattle.schedule.specs.declared.choice.Attempt.{Attempt}
use Rattle.schedule.specs.declared.problem.Problem.{Problem}
use Rattle.schedule.specs.Problems.{operations_in, machine_in, lives_in, ReadyAt}
use Rattle.schedule.specs.Choices.{OfferOf, CameOf, AttemptOf, plan_of, ChoiceOf}

-- From k on, after so many steps, the plan is still to come.
abbrev pub Reached : {S : Type 0} → (S → Meaning) → (S → ℕ → ℕ → ℕ) → Problem → ℕ → S → ℕ → ℕ → Type 0
Reached meaning place p lowest entry k steps =
    from_here (operations_in p) p.edges.now (machine_in p) (heights p.edges.now (length (operations_in p))) (meaning entry).need (meaning entry).file k steps ≡
    plan_of meaning place p lowest entry

module _ (p : Problem) where
  abbrev ops : Loop
  ops = operations_in p

  abbrev es : List Edge
  es = p.edges.now

  abbrev us : List Timing
  us = p.timings.now

  abbrev hw : Hardware
  hw = machine_in p

  ready : ReadyAt p p.minimum.value
  ready = p.ready

  abbrev high : ℕ → ℕ → ℕ
  high = heights es (length ops)

  whole_is : latencies us (length us) ≡ total hw.latency (length ops)
  whole_is = ap (latencies us) ready.each

  pub is_short : Short us
  is_short = (omega (arith, ready.each, ready.formed.few), omega (arith, whole_is, whole_short ops es us p.units.now p.minimum.value ready))

  module _ (s : OwnSchedule) (h : SequenceOf us (Some s)) where
    sequential_is : Tells (length ops) (schedule_seen s) (sequential ops hw)
    sequential_is = sequence_is ops es us p.units.now p.minimum.value ready s.interval (λ j. get_or s.times j 0) h.1 h.2

    sequential_table : lives_in p (schedule_seen s) ≡ lives_in p (sequential ops hw)
    sequential_table = table_same ops (schedule_seen s) (sequential ops hw) hw sequential_is.alike

    pub sequential_limits : Limits (lives_in p (schedule_seen s))
    sequential_limits = subst Limits (sym sequential_table) (sequence_limits ops es us p.units.now p.minimum.value ready)

    sequential_shallow : stages (schedule_seen s) (length ops) ≤ 8
    sequential_shallow =
        omega (arith, stages_same (schedule_seen s) (sequential ops hw) (length ops) sequential_is.alike, (sequential_stands ops hw ready.formed).1)

  module _ {S : Type 0} (meaning : S → Meaning) (place : S → ℕ → ℕ → ℕ) (entry cur after : S) (e : cur ≡ entry) (k steps : ℕ)
      (reached : Reached meaning place p p.minimum.value entry k steps) where
    module _ (a : Attempt) (below : k < latencies us (length us)) (d : AttemptOf meaning place p k cur after a) where
      at : AttemptOf meaning place p k entry after a
      at = subst (λ s. AttemptOf meaning place p k s after a) e d

      pub reached_next : a.choice ≡ None → (after ≡ entry) × Reached meaning place p p.minimum.value entry (k + 1) (steps + a.steps)
      reached_next none =
          let came = subst (CameOf meaning place p k entry after) none at.came in (
            came.1,
            ap (λ t. from_here ops es hw high (meaning entry).need (meaning entry).file (k + 1) (steps + t)) at.steps ∙
                (sym (plan_next ops es hw high (meaning entry).need (meaning entry).file k steps (omega (arith, whole_is)) came.0) ∙ reached),
          )

      pub reached_found : (c : Choice) → a.choice ≡ Some c → ChoiceOf meaning place p entry after (Some (record { minimum = p.minimum; choice = c; steps = steps + a.steps }))
      reached_found c some =
          let came = subst (CameOf meaning place p k entry after) some at.came in (
            refl,
            (
              schedule_seen c.schedule,
              (
                record { alike = alike_self (length ops) (schedule_seen c.schedule); rest = came.2 },
                sym reached ∙
                    (plan_found ops es hw high (meaning entry).need (meaning entry).file k steps (omega (arith, whole_is)) came.0 ∙
                    ap₂ planned came.1 (ap (λ t. steps + t) (sym at.steps))),
                came.3,
              ),
            ),
          )

    module _ (s : OwnSchedule) (h : SequenceOf us (Some s)) (past : s.interval ≤ k) where
      at_end : total hw.latency (length ops) ≤ k
      at_end = omega (arith, h.1, whole_is)

      pub reached_none : OfferOf meaning place p s cur after None → ChoiceOf meaning place p entry after None
      reached_none d = elim (subst (λ x. OfferOf meaning place p s x after None) e d) [
        | inl deep ↦ absurd (omega (arith, deep.0, sequential_shallow s h))
        | inr r ↦ (
          sym reached ∙
              plan_refused ops es hw high (meaning entry).need (meaning entry).file k steps at_end
              (subst (λ t. (meaning entry).file < (meaning entry).need t) (sequential_table s h) r.1.beyond),
          r.1.same,
        )
      ]

      pub reached_sequence : (c : Choice) → OfferOf meaning place p s cur after (Some c) →
          ChoiceOf meaning place p entry after (Some (record { minimum = p.minimum; choice = c; steps = steps }))
      reached_sequence c d =
          let at = subst (λ x. OfferOf meaning place p s x after (Some c)) e d in
          let within = subst (λ t. (meaning entry).need t ≤ (meaning entry).file) (ap (λ x. lives_in p (schedule_seen x)) at.0 ∙ sequential_table s h) at.2.fitted.within in (
            refl,
            (
              sequential ops hw,
              (
                subst (λ x. Tells (length ops) (schedule_seen x) (sequential ops hw)) (sym at.0) (sequential_is s h),
                sym reached ∙ plan_sequential ops es hw high (meaning entry).need (meaning entry).file k steps at_end within,
                at.2,
              ),
            ),
          )
