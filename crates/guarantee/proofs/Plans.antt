-- A plan that the scheme accepted holds. Assumes nothing.
use Rattle.std.proofs.Common.{◌≡◌, ℕ, true, length, sym, subst}
use Rattle.model.specs.Loop.{Loop, Hardware}
use Rattle.model.specs.MachineText.{Machine}
use Rattle.model.specs.Soundness.{sound_machine, sound_loop, hardware}
use Rattle.model.specs.Edges.{edges}
use Rattle.model.specs.Lives.{Table}
use Rattle.model.specs.Schedule.{stages}
use Rattle.model.specs.ScheduleLives.{lives_table}
use Rattle.model.specs.Minimum.{Evidence, by_class, by_circuit, IsEvidence}
use Rattle.model.specs.Schemes.{Meaning, Lawful, Apart, Accepted}
use Rattle.model.specs.Plan as plans
use Rattle.graph_laws.proofs.Lower.{no_smaller_interval, class_excludes}
use Rattle.graph_laws.proofs.Around.{circuit_excludes}
use Rattle.search_laws.proofs.Plan.{plan_is_sound}
use Rattle.schedule_laws.specs.Alike.{IsPlanned}
use Rattle.schedule_laws.proofs.Alike.{sound_same}
use Rattle.guarantee.specs.Calls.{Planned}
use Rattle.guarantee.specs.Guarantees.{Excludes, PlanHolds}
use Rattle.guarantee.proofs.OnTexts.{on_machine}

excluding : (ops : Loop) (hw : Hardware) (classes k : ℕ) (e : Evidence) → IsEvidence (edges ops hw) hw (length ops) classes k e → Excludes ops hw k e
excluding ops hw classes k (by_class u) h = class_excludes ops hw classes k u h
excluding ops hw classes k (by_circuit xs) h = circuit_excludes (edges ops hw) k xs h.1

module _ (m : Machine) (ops : Loop) (sm : sound_machine m ≡ true) (sl : sound_loop ops ≡ true) (p : Planned) where
  -- for the needs and the file of the scheme as it was, which are those of the scheme as it is
  pub plan_holds : (was now : Meaning) (place : ℕ → ℕ → ℕ) → Lawful now → now.place ≡ place →
      IsPlanned ops (edges ops (hardware m ops)) (hardware m ops) (length m.classes) was.need was.file p.minimum p.schedule p.steps →
      IsEvidence (edges ops (hardware m ops)) (hardware m ops) (length ops) (length m.classes) p.minimum p.evidence →
      p.stages ≡ stages p.schedule (length ops) →
      Accepted was now place (lives_table ops (hardware m ops) p.schedule) p.turns →
      PlanHolds now m ops p
  plan_holds was now place lawful placed is evidence deep taken =
      let on = on_machine m ops sm sl in
      let Is : (Table → ℕ) → ℕ → Type 0 = λ need file. IsPlanned ops (edges ops (hardware m ops)) (hardware m ops) (length m.classes) need file p.minimum p.schedule p.steps in
      let searched = subst (λ need. Is need now.file) (sym taken.need) (subst (λ file. Is was.need file) (sym taken.file) is) in
      record {
        minimum = searched.is.minimum;
        evidence = evidence;
        no_denser = no_smaller_interval ops (hardware m ops) (length m.classes) p.minimum on.some_units searched.is.minimum;
        excludes = excluding ops (hardware m ops) (length m.classes) p.minimum p.evidence evidence;
        searched = searched;
        sound = sound_same ops (hardware m ops) on.formed p.schedule searched.schedule searched.tells.alike searched.is.height now.need now.file p.minimum p.steps
            (plan_is_sound ops (hardware m ops) (length m.classes) now.need now.file p.minimum (plans.planned searched.schedule p.steps) on searched.is);
        stages = deep;
        lives = record { lawful = lawful; variables = taken.variables; apart = subst (Apart (lives_table ops (hardware m ops) p.schedule)) (sym placed) taken.apart };
        turns = taken.turns;
      }
