-- What comes of an interval.
use Rattle.std.proofs.Common.{◌≡◌, ℕ, ◌*◌, ◌<◌, ◌≤◌, true, false, List, [], length, get_or, Some, None, Option, Ok, Err, Result, IsOk, unwrap_or, Bool, sym, refl, ap, ◌∙◌, subst, inl, inr, arith}
use mathlib.Core.Path.{fun_ext}
use Rattle.model.specs.declared.Edge.{Edge}
use Rattle.model.specs.declared.Timing.{Timing}
use Rattle.model.specs.Loop.{Loop}
use Rattle.model.specs.Limits.{hardware, GraphFits}
use Rattle.model.specs.Schedule.{stages}
use Rattle.model.specs.Schemes.{Meaning}
use Rattle.model.specs.Lives.{Limits}
use Rattle.model.specs.Search.{Outcome, found}
use Rattle.model.specs.Plan.{steps_of, succeeds, found_at}
use Rattle.schedule_laws.specs.Ready.{heights}
use Rattle.schedule_laws.proofs.Intervals.{succeeds_then, fails_deep, fails_refused, fails_failed}
use Rattle.schedule_laws.proofs.Readiness.{ready_later, whole_short, few_steps, by_heights, lives_limits}
use Rattle.schedule_laws.proofs.Rest.{RestFound, search_rest}
use Rattle.schedule_laws.proofs.Tables.{table_any}
use Rattle.reservation.specs.Times.{times_of}
use Rattle.reservation.specs.declared.time_table.TimeTable.{TimeTable}
use Rattle.search.specs.Answers.{ended, outcome, Inside, SearchOf}
use Rattle.search.specs.declared.outcome.Outcome.{Outcome as OwnOutcome}
use Rattle.search.specs.declared.outcome.NoSearch.{NoSearch}
use Rattle.search.specs.declared.outcome.NoSearch.TheVariants.{Outside, Above, Narrow}
use Rattle.timing.specs.declared.Schedule.{Schedule as OwnSchedule}
use Rattle.timing.specs.Seen.{schedule_seen}
use Rattle.lives.specs.Schedules.{latencies}
use Rattle.schedule.specs.declared.choice.Choice.{Choice}
use Rattle.schedule.specs.declared.problem.Problem.{Problem}
use Rattle.schedule.specs.Problems.{operations_in, machine_in, lives_in, ReadyAt, searched_at}
use Rattle.schedule.specs.Choices.{OfferOf, CameOf, AttemptOf}

steps_ended : (t : Option TimeTable) (n : ℕ) → n ≡ steps_of (ended t n)
steps_ended (Some t) n = refl
steps_ended None n = refl

module _ (p : Problem) (k : ℕ) (low : p.minimum.value ≤ k) (below : k < latencies p.timings.now (length p.timings.now)) where
  abbrev ops : Loop
  ops = operations_in p

  abbrev es : List Edge
  es = p.edges.now

  abbrev us : List Timing
  us = p.timings.now

  abbrev units : List ℕ
  units = p.units.now

  ready : ReadyAt p k
  ready = ready_later ops es us units p.minimum.value k p.ready low

  small : k ≤ 256
  small = omega (arith, whole_short ops es us units k ready, ap (latencies us) ready.each)

  inside : Inside es us units k
  inside = record {
    graph = subst (λ n. GraphFits n es) (sym ready.each) ready.graph;
    machine = ready.machine;
    some = ready.positive;
    most = small;
  }

  -- there is a search
  no_error : (e : NoSearch) → SearchOf es us units k (Err e) → ⊥
  no_error Outside h = h inside
  no_error Above h = omega (arith, ready.none_above h.1.0 h.1.1, h.1.2)
  no_error Narrow h = h.1 (subst (λ n. (j : ℕ) → j < n → (hardware us units).busy j ≤ k * (hardware us units).units ((hardware us units).class j)) (sym ready.each) ready.roomy)

  pub there_is : (r : Result OwnOutcome NoSearch) → SearchOf es us units k r → IsOk r
  there_is (Ok o) h = refl
  there_is (Err e) h = absurd (no_error e h)

  abbrev at : List ℕ → OwnSchedule
  at xs = record { interval = k; times = xs }

  -- a table can hold the lives of a schedule at k with few stages
  pub room_for : (xs : List ℕ) → stages (schedule_seen (at xs)) (length ops) ≤ 8 → Limits (lives_in p (schedule_seen (at xs)))
  room_for xs few = subst Limits (table_any ops us (schedule_seen (at xs)) [] units) (lives_limits ops es us units k ready (λ j. get_or xs j 0) small few)

  module _ (o : OwnOutcome) (h : SearchOf es us units k (Ok o)) where
    search_is : outcome o ≡ searched_at p k
    search_is = h.2.is ∙ by_heights ops es us units k ready h.2.height h.2.heights

    steps_are : o.steps ≡ steps_of (searched_at p k)
    steps_are = steps_ended o.times o.steps ∙ ap steps_of search_is

    steps_few : o.steps ≤ 192
    steps_few = omega (arith, few_steps ops es us units k ready, steps_are)

    module _ {S : Type 0} (meaning : S → Meaning) (place : S → ℕ → ℕ → ℕ) (before : S) where
      abbrev Succeeds : Outcome → Bool → Type 0
      Succeeds x b = succeeds ops (machine_in p) (meaning before).need (meaning before).file k x ≡ b

      pub when_none : o.times ≡ None → AttemptOf meaning place p k before before (record { choice = None; steps = o.steps })
      when_none e = record {
        steps = steps_are;
        few = steps_few;
        came = (
          subst (λ x. Succeeds x false) (sym (ap (λ x. ended x o.steps) e) ∙ search_is) (fails_failed ops (machine_in p) (meaning before).need (meaning before).file k o.steps),
          refl,
        );
      }

      module _ (t : TimeTable) (xs : List ℕ) (e : o.times ≡ Some t) (are : (j : ℕ) → get_or xs j 0 ≡ unwrap_or (times_of t j) 0) (after : S) where
        -- the times found, as the code holds them
        found_is : found (schedule_seen (at xs)).time o.steps ≡ searched_at p k
        found_is = ap (λ f. found f o.steps) (fun_ext are) ∙ (sym (ap (λ x. ended x o.steps) e) ∙ search_is)

        came : (c : Option Choice) → OfferOf meaning place p (at xs) before after c → CameOf meaning place p k before after c
        came None (inl d) = (
          subst (λ x. Succeeds x false) found_is (fails_deep ops (machine_in p) (meaning before).need (meaning before).file k (schedule_seen (at xs)).time o.steps d.0),
          d.1,
        )
        came None (inr d) = (
          subst (λ x. Succeeds x false) found_is (fails_refused ops (machine_in p) (meaning before).need (meaning before).file k (schedule_seen (at xs)).time o.steps d.0 d.1.beyond),
          d.1.same,
        )
        came (Some c) d =
            let few : stages (schedule_seen (at xs)) (length ops) ≤ 8 = subst (λ s. stages (schedule_seen s) (length ops) ≤ 8) d.0 (omega (arith, d.1, d.2.stages)) in
            let within = subst (λ s. (meaning before).need (lives_in p (schedule_seen s)) ≤ (meaning before).file) d.0 d.2.fitted.within in (
              subst (λ x. Succeeds x true) found_is (succeeds_then ops (machine_in p) (meaning before).need (meaning before).file k (schedule_seen (at xs)).time o.steps few within),
              sym (ap (found_at k) found_is) ∙ ap schedule_seen (sym d.0),
              subst (λ s. (j : ℕ) → length ops ≤ j → (schedule_seen s).time j ≡ 0) (sym d.0)
                  (subst (RestFound (length ops)) (sym found_is) (search_rest es (machine_in p) (length ops) (heights es (length ops) k) k)),
              d.2,
            )

        pub when_found : (c : Option Choice) → OfferOf meaning place p (at xs) before after c → AttemptOf meaning place p k before after (record { choice = c; steps = o.steps })
        when_found c d = record { steps = steps_are; few = steps_few; came = came c d }
