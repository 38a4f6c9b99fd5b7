-- A concrete run: a loop on a machine, a schedule, places and a memory of words.
use Rattle.std.specs.Prelude.{ℕ, List, length, slice_index}
use Rattle.model.specs.Loop.{Loop, Hardware}
use Rattle.model.specs.Schedule.{Schedule}
use Rattle.model.specs.Domains.{words}
use Rattle.model.specs.Plain.{plain}
use Rattle.model.specs.Issues.{passes, home_of, issues_at}
use Rattle.model.specs.Driving.{Waiting, Outcome, fresh, standing, drive}
use Rattle.model.specs.Pipelining.{Pipelined}

pub record Case : Type 0 where
  pub loop : Loop
  pub hardware : Hardware
  pub schedule : Schedule
  pub trips : ℕ
  pub place : ℕ → ℕ → ℕ
  pub memory : List ℕ

-- The times of a schedule, and the registers of a place function that never turns, as lists.
abbrev pub timed : ℕ → List ℕ → Schedule
timed k times = record { interval = k; time = λ j. slice_index times j }

abbrev pub fixed : List ℕ → ℕ → ℕ → ℕ
fixed registers v i = slice_index registers v

abbrev pub old_waiting : ℕ → Waiting ℕ
old_waiting r = record { due = 0; value = 0 }

-- The machine's run on what issues, and what it and the plain loop leave in memory.
abbrev pub run_of : Case → Outcome ℕ
run_of x = drive words x.hardware.units x.schedule.interval x.trips
    (issues_at x.loop x.hardware x.schedule x.trips (home_of x.loop x.place))
    (passes x.schedule (length x.loop) x.trips) (fresh x.memory (λ _. 0) old_waiting)

abbrev pub machine_leaves : Case → List ℕ
machine_leaves x = (standing (run_of x)).memory

abbrev pub plain_leaves : Case → List ℕ
plain_leaves x = (plain words x.loop x.trips x.memory).memory

-- What the theorem says of the case.
abbrev pub Concluded : Case → Type 0
Concluded x = Pipelined words x.loop x.hardware x.schedule x.trips x.place x.memory (λ _. 0) old_waiting
    (issues_at x.loop x.hardware x.schedule x.trips (home_of x.loop x.place))
