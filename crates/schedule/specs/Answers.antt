-- What is answered when a loop is scheduled.
use Rattle.std.specs.Prelude.{◌≡◌, ℕ, List, length, Some, Ok, Err, Result}
use Rattle.model.specs.declared.Edge.{Edge}
use Rattle.model.specs.Loop.{Loop}
use Rattle.model.specs.MachineText.{Machine}
use Rattle.model.specs.Soundness.{hardware}
use Rattle.model.specs.Limits.{GraphFits}
use Rattle.model.specs.Minimum.{IsEvidence, Standing as StandingEdges}
use Rattle.model.specs.Schedule.{Schedule, stages as stages_in}
use Rattle.model.specs.ScheduleLives.{lives_table}
use Rattle.model.specs.Schemes.{Meaning}
use Rattle.model.specs.Plan.{refused, IsPlan}
use Rattle.schedule_laws.specs.Alike.{IsPlanned}
use Rattle.bounds.specs.Answers.{evidence as evidence_of}
use Rattle.registers.specs.Fits.{Fitted}
use Rattle.timing.specs.Seen.{schedule_seen}
use Rattle.schedule.specs.declared.answer.Scheduled.{Scheduled}
use Rattle.schedule.specs.declared.answer.NoSchedule.{NoSchedule}
use Rattle.schedule.specs.declared.answer.NoSchedule.TheVariants.{NotTaken, Outside, Standing}

abbrev pub schedule_of : Scheduled → Schedule
schedule_of p = schedule_seen p.choice.schedule

-- The plan, the evidence for the minimum, and the scheme, which took the lives of the schedule.
pub record Success {S : Type 0} (meaning : S → Meaning) (place : S → ℕ → ℕ → ℕ) (m : Machine) (ops : Loop) (es : List Edge) (before after : S) (p : Scheduled) : Type 0 where
  pub fits : GraphFits (length ops) es
  pub plan : IsPlanned ops es (hardware m ops) (length m.classes) (meaning before).need (meaning before).file p.minimum.value (schedule_of p) p.steps
  pub evidence : IsEvidence es (hardware m ops) (length ops) (length m.classes) p.minimum.value (evidence_of p.minimum.witness)
  pub fitted : Fitted meaning place before after (lives_table ops (hardware m ops) (schedule_of p)) (Some p.choice.turns)
  pub stages : p.choice.stages ≡ stages_in (schedule_of p) (length ops)

-- The plan is a refusal, and the scheme is as it was.
pub record NoneTaken {S : Type 0} (meaning : S → Meaning) (m : Machine) (ops : Loop) (es : List Edge) (before after : S) : Type 0 where
  pub fits : GraphFits (length ops) es
  pub lowest : ℕ
  pub plan : IsPlan ops es (hardware m ops) (length m.classes) (meaning before).need (meaning before).file lowest refused
  pub same : after ≡ before

-- Of a loop on a machine, for any edges: the plan; or the edges are outside the limits; or a circuit has delays and no distance.
abbrev pub ScheduleOf : {S : Type 0} → (S → Meaning) → (S → ℕ → ℕ → ℕ) → Machine → Loop → List Edge → S → S → Result Scheduled NoSchedule → Type 0
ScheduleOf meaning place m ops es before after (Ok p) = Success meaning place m ops es before after p
ScheduleOf meaning place m ops es before after (Err NotTaken) = NoneTaken meaning m ops es before after
ScheduleOf meaning place m ops es before after (Err Outside) = (GraphFits (length ops) es → ⊥) × (after ≡ before)
ScheduleOf meaning place m ops es before after (Err Standing) = GraphFits (length ops) es × StandingEdges es × (after ≡ before)
