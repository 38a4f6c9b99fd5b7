-- What follows where the edges are those of the loop.
use Rattle.std.proofs.Common.{◌≡◌, ℕ, ◌≤◌, true, List, length, Err, sym, ap, ◌∙◌, subst, arith}
use Rattle.model.specs.declared.Edge.{Edge}
use Rattle.model.specs.Loop.{Loop}
use Rattle.model.specs.Edges.{edges}
use Rattle.model.specs.MachineText.{Machine}
use Rattle.model.specs.Soundness.{sound_machine, sound_loop, hardware}
use Rattle.model.specs.Limits.{GraphFits}
use Rattle.model.specs.Minimum.{IsMinimum, IsHeight, Standing as StandingEdges}
use Rattle.model.specs.Schemes.{Meaning}
use Rattle.model.specs.Plan.{planned, plan}
use Rattle.model.specs.SearchLaws.{SoundSchedule}
use Rattle.graph_laws.proofs.Fits.{edges_fit}
use Rattle.graph_laws.proofs.Around.{no_standing_circuit}
use Rattle.search_laws.proofs.Plan.{plan_is_sound}
use Rattle.schedule_laws.proofs.Alike.{sound_same}
use Rattle.schedule_laws.proofs.Machines.{on_machines}
use Rattle.schedule.specs.declared.answer.Scheduled.{Scheduled}
use Rattle.schedule.specs.declared.answer.NoSchedule.TheVariants.{Outside, Standing}
use Rattle.schedule.specs.Answers.{schedule_of, Success, ScheduleOf}

module _ {S : Type 0} (meaning : S → Meaning) (place : S → ℕ → ℕ → ℕ) (m : Machine) (ops : Loop) (es : List Edge) (before after : S)
    (sm : sound_machine m ≡ true) (sl : sound_loop ops ≡ true) (own : es ≡ edges ops (hardware m ops)) where
  -- What is planned is a schedule, by the heights of the plan.
  pub sound_schedule : (p : Scheduled) → (h : Success meaning place m ops es before after p) →
      SoundSchedule ops (hardware m ops) h.plan.is.height (meaning before).need (meaning before).file p.minimum.value (schedule_of p) p.steps
  sound_schedule p h =
      sound_same ops (hardware m ops) (on_machines m ops sm sl).formed (schedule_of p) h.plan.schedule h.plan.tells.alike h.plan.is.height (meaning before).need (meaning before).file
      p.minimum.value p.steps
      (plan_is_sound ops (hardware m ops) (length m.classes) (meaning before).need (meaning before).file p.minimum.value (planned h.plan.schedule p.steps) (on_machines m ops sm sl)
      (record {
        minimum = subst (λ e. IsMinimum e (hardware m ops) (length ops) (length m.classes) p.minimum.value) own h.plan.is.minimum;
        height = h.plan.is.height;
        heights = subst (λ e. (k : ℕ) → p.minimum.value ≤ k → (u : ℕ) → IsHeight e k u (h.plan.is.height k u)) own h.plan.is.heights;
        is = h.plan.is.is ∙ ap (λ e. plan ops e (hardware m ops) h.plan.is.height (meaning before).need (meaning before).file p.minimum.value) own;
      }))

  -- There are no other answers but a plan and a refusal by the register scheme.
  pub never_outside : ScheduleOf meaning place m ops es before after (Err Outside) → ⊥
  never_outside h = h.0 (subst (λ e. GraphFits (length ops) e) (sym own) (edges_fit ops (hardware m ops) (on_machines m ops sm sl).formed))

  pub never_standing : ScheduleOf meaning place m ops es before after (Err Standing) → ⊥
  never_standing h =
      let at = subst StandingEdges own h.1 in
      omega (arith, no_standing_circuit ops (hardware m ops) (on_machines m ops sm sl).formed at.0 at.1, at.2)
