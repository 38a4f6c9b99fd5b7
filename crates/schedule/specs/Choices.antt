-- On the way to a plan: what is offered, what is tried at an interval, and what is chosen.
use Rattle.std.specs.Prelude.{◌≡◌, ℕ, ◌<◌, ◌≤◌, Bool, true, false, length, Some, None, Option, ◌⊎◌}
use Rattle.model.specs.Schedule.{Schedule, stages as stages_in}
use Rattle.model.specs.Schemes.{Meaning}
use Rattle.model.specs.Plan.{Plan, planned, refused, steps_of, succeeds, found_at, plan}
use Rattle.schedule_laws.specs.Alike.{Tells}
use Rattle.schedule_laws.specs.Ready.{heights}
use Rattle.registers.specs.Fits.{Fitted}
use Rattle.timing.specs.declared.Schedule.{Schedule as OwnSchedule}
use Rattle.timing.specs.Seen.{schedule_seen}
use Rattle.schedule.specs.declared.answer.Scheduled.{Scheduled}
use Rattle.schedule.specs.declared.choice.Choice.{Choice}
use Rattle.schedule.specs.declared.choice.Attempt.{Attempt}
use Rattle.schedule.specs.declared.problem.Problem.{Problem}
use Rattle.schedule.specs.Problems.{operations_in, machine_in, lives_in, searched_at}

module _ {S : Type 0} (meaning : S → Meaning) (place : S → ℕ → ℕ → ℕ) (p : Problem) where
  -- The scheme took a schedule, which has so many stages.
  pub record Accepts (before after : S) (c : Choice) : Type 0 where
    pub fitted : Fitted meaning place before after (lives_in p (schedule_seen c.schedule)) (Some c.turns)
    pub stages : c.stages ≡ stages_in (schedule_seen c.schedule) (length (operations_in p))

  -- What is offered has too many stages, or the scheme refused it.
  abbrev pub Declined : OwnSchedule → S → S → Type 0
  Declined s before after =
      ((8 < stages_in (schedule_seen s) (length (operations_in p))) × (after ≡ before)) ⊎
      ((stages_in (schedule_seen s) (length (operations_in p)) ≤ 8) × Fitted meaning place before after (lives_in p (schedule_seen s)) None)

  abbrev pub OfferOf : OwnSchedule → S → S → Option Choice → Type 0
  OfferOf s before after (Some c) = (c.schedule ≡ s) × (c.stages ≤ 8) × Accepts before after c
  OfferOf s before after None = Declined s before after

  -- The search at k succeeded, and the scheme took what it found; or it did not, and the scheme is as it was.
  abbrev pub succeeded_at : S → ℕ → Bool
  succeeded_at before k = succeeds (operations_in p) (machine_in p) (meaning before).need (meaning before).file k (searched_at p k)

  abbrev pub CameOf : ℕ → S → S → Option Choice → Type 0
  CameOf k before after (Some c) =
      (succeeded_at before k ≡ true) × (found_at k (searched_at p k) ≡ schedule_seen c.schedule) ×
      ((j : ℕ) → length (operations_in p) ≤ j → (schedule_seen c.schedule).time j ≡ 0) × Accepts before after c
  CameOf k before after None = (succeeded_at before k ≡ false) × (after ≡ before)

  pub record AttemptOf (k : ℕ) (before after : S) (a : Attempt) : Type 0 where
    pub steps : a.steps ≡ steps_of (searched_at p k)
    pub few : a.steps ≤ 192
    pub came : CameOf k before after a.choice

  -- The plan from the lowest interval on.
  abbrev pub plan_of : ℕ → S → Plan
  plan_of lowest before =
      plan (operations_in p) p.edges.now (machine_in p) (heights p.edges.now (length (operations_in p))) (meaning before).need (meaning before).file lowest

  abbrev pub ChoiceOf : S → S → Option Scheduled → Type 0
  ChoiceOf before after (Some s) =
      (s.minimum ≡ p.minimum) ×
      ((w : Schedule) × (Tells (length (operations_in p)) (schedule_seen s.choice.schedule) w × (plan_of p.minimum.value before ≡ planned w s.steps) × Accepts before after s.choice))
  ChoiceOf before after None = (plan_of p.minimum.value before ≡ refused) × (after ≡ before)
