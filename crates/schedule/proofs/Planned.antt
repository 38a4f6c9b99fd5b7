-- From the machine and the loop to lists, and back.
use Rattle.std.proofs.Common.{◌≡◌, ℕ, true, List, length, Some, None, Option, Err, Ok, ok_or, sym, refl, ap, ◌∙◌, subst, subst₂}
use Rattle.model.specs.declared.Edge.{Edge}
use Rattle.model.specs.declared.Timing.{Timing}
use Rattle.model.specs.Loop.{Loop, Hardware, WellFormed}
use Rattle.model.specs.MachineText.{Machine}
use Rattle.model.specs.Soundness.{sound_machine, timings_of, units_of}
use Rattle.model.specs.Limits.{hardware, GraphFits, MachineFits}
use Rattle.model.specs.Minimum.{IsMinimum, IsEvidence}
use Rattle.model.specs.Lives.{Table}
use Rattle.model.specs.ScheduleLives.{lives_table}
use Rattle.model.specs.Schemes.{Meaning}
use Rattle.registers.specs.Fits.{Fitted}
use Rattle.dependence.specs.declared.loops.Loop.{Loop as OwnLoop}
use Rattle.dependence.specs.Loops.{loop_seen}
use Rattle.model.specs.Plan.{Plan, plan, IsPlan}
use Rattle.text_laws.proofs.Formed.{well_formed, machine_fits}
use Rattle.schedule_laws.specs.Alike.{IsPlanned}
use Rattle.schedule_laws.specs.Ready.{Ready, heights}
use Rattle.schedule_laws.proofs.Readiness.{ready_from}
use Rattle.schedule_laws.proofs.Machines.{timings_count, units_count}
use Rattle.schedule_laws.proofs.Intervals.{rounds_are_heights}
use Rattle.bounds.specs.Answers.{evidence, Inside, MinimumOf}
use Rattle.bounds.specs.declared.answer.Minimum.{Minimum}
use Rattle.bounds.specs.declared.answer.NoMinimum.{NoMinimum}
use Rattle.bounds.specs.declared.answer.NoMinimum.TheVariants.{Outside, Standing}
use Rattle.schedule.specs.declared.answer.Scheduled.{Scheduled}
use Rattle.schedule.specs.declared.answer.NoSchedule.TheVariants.{NotTaken}
use Rattle.schedule.specs.declared.problem.Problem.{Problem}
use Rattle.schedule.specs.Refusals.{refused_as}
use Rattle.schedule.specs.Problems.{operations_in}
use Rattle.schedule.specs.Choices.{ChoiceOf}
use Rattle.schedule.specs.Answers.{schedule_of, ScheduleOf}

module _ (m : Machine) (source : OwnLoop) (es : List Edge) (us : List Timing) (units : List ℕ) (sm : sound_machine m ≡ true)
    (timings : us ≡ timings_of m (loop_seen source)) (counts : units ≡ units_of m) where
  abbrev ops : Loop
  ops = loop_seen source

  abbrev hw : Hardware
  hw = hardware (timings_of m ops) (units_of m)

  each : length us ≡ length ops
  each = ap length timings ∙ timings_count m ops

  is_inside : GraphFits (length ops) es → Inside es us units
  is_inside fits = (subst (λ n. GraphFits n es) (sym each) fits, subst₂ MachineFits (sym timings) (sym counts) (machine_fits m ops sm))

  graph_fits : Inside es us units → GraphFits (length ops) es
  graph_fits h = subst (λ n. GraphFits n es) each h.0

  -- without a minimum
  pub no_minimum : {S : Type 0} (meaning : S → Meaning) (place : S → ℕ → ℕ → ℕ) (before : S) (why : NoMinimum) → MinimumOf es us units (Err why) →
      ScheduleOf meaning place m ops es before before (Err (refused_as why))
  no_minimum meaning place before Outside h = (λ fits. h (is_inside fits), refl)
  no_minimum meaning place before Standing h = (graph_fits h.0, h.1, refl)

  module _ (min : Minimum) (h : MinimumOf es us units (Ok min)) where
    minimum_is : IsMinimum es (hardware us units) (length ops) (length units) min.value
    minimum_is = subst (λ n. IsMinimum es (hardware us units) n (length units) min.value) each h.1

    pub is_ready : Ready ops es us units min.value
    is_ready =
        ready_from ops es us units min.value (subst₂ (λ x y. WellFormed ops (hardware x y)) (sym timings) (sym counts) (well_formed m ops sm source.sound)) each (graph_fits h.0) h.0.1 minimum_is

    minimum_of : IsMinimum es hw (length ops) (length m.classes) min.value
    minimum_of =
        subst (λ n. IsMinimum es hw (length ops) n min.value) (units_count m)
        (subst₂ (λ x y. IsMinimum es (hardware x y) (length ops) (length y) min.value) timings counts minimum_is)

    evidence_of : IsEvidence es hw (length ops) (length m.classes) min.value (evidence min.witness)
    evidence_of =
        subst (λ n. IsEvidence es hw (length ops) n min.value (evidence min.witness)) (units_count m)
        (subst₂ (λ x y. IsEvidence es (hardware x y) (length ops) (length y) min.value (evidence min.witness)) timings counts
        (subst (λ n. IsEvidence es (hardware us units) n (length units) min.value (evidence min.witness)) each h.2))

    -- the plan on the machine is that on the lists
    plan_is : (need : Table → ℕ) (file : ℕ) (q : Plan) → plan ops es (hardware us units) (heights es (length ops)) need file min.value ≡ q →
        IsPlan ops es hw (length m.classes) need file min.value q
    plan_is need file q e = record {
      minimum = minimum_of;
      height = heights es (length ops);
      heights = λ k low. (rounds_are_heights es hw (length ops) (length m.classes) min.value k (graph_fits h.0).each minimum_of low).0;
      is = sym (subst₂ (λ x y. plan ops es (hardware x y) (heights es (length ops)) need file min.value ≡ q) timings counts e);
    }

-- with a minimum, what is chosen is the plan
module _ (m : Machine) (p : Problem) (sm : sound_machine m ≡ true) (timings : p.timings.now ≡ timings_of m (operations_in p)) (counts : p.units.now ≡ units_of m)
    (h : MinimumOf p.edges.now p.timings.now p.units.now (Ok p.minimum)) {S : Type 0} (meaning : S → Meaning) (place : S → ℕ → ℕ → ℕ) (before after : S) where
  fits : GraphFits (length (operations_in p)) p.edges.now
  fits = graph_fits m p.source.now p.edges.now p.timings.now p.units.now sm timings counts h.0

  pub planned_of : (r : Option Scheduled) → ChoiceOf meaning place p before after r → ScheduleOf meaning place m (operations_in p) p.edges.now before after (ok_or r NotTaken)
  planned_of None d = record {
    fits = fits;
    lowest = p.minimum.value;
    plan = plan_is m p.source.now p.edges.now p.timings.now p.units.now sm timings counts p.minimum h (meaning before).need (meaning before).file _ d.0;
    same = d.1;
  }
  planned_of (Some s) d = record {
    fits = fits;
    plan = subst (λ x. IsPlanned (operations_in p) p.edges.now (hardware (timings_of m (operations_in p)) (units_of m)) (length m.classes) (meaning before).need (meaning before).file x.value (schedule_of s) s.steps) (sym d.0) (record {
      schedule = d.1.0;
      tells = d.1.1.0;
      is = plan_is m p.source.now p.edges.now p.timings.now p.units.now sm timings counts p.minimum h (meaning before).need (meaning before).file _ d.1.1.1;
    });
    evidence = subst (λ x. IsEvidence p.edges.now (hardware (timings_of m (operations_in p)) (units_of m)) (length (operations_in p)) (length m.classes) x.value (evidence x.witness)) (sym d.0)
        (evidence_of m p.source.now p.edges.now p.timings.now p.units.now sm timings counts p.minimum h);
    fitted = subst₂ (λ x y. Fitted meaning place before after (lives_table (operations_in p) (hardware x y) (schedule_of s)) (Some s.choice.turns)) timings counts d.1.1.2.fitted;
    stages = d.1.1.2.stages;
  }
