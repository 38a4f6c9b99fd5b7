-- Nine stages: between cells that are eight iterations apart there is no memory edge.
use Rattle.std.specs.Prelude.{◌≡◌, ℕ, ◌%◌, List, [], ◌∷◌, length}
use Rattle.model.specs.Loop.{Loop, variable, load, store, Hardware, WellFormed}
use Rattle.model.specs.Schedule.{stages, IsSchedule, FewStages}
use Rattle.model.specs.ScheduleLives.{lives_table}
use Rattle.model.specs.Schemes.{Apart}
use Rattle.model.specs.Pipelining.{InMemory}
use Rattle.sharpness.specs.Cases.{Case, timed, machine_leaves, plain_leaves, Concluded}

-- a = load 1 0; store a 1 8
abbrev pub loop : Loop
loop = load 1 0 ∷ store (variable 0 0) 1 8 ∷ []

-- a class for each operation, of one unit, every latency 1
abbrev pub hardware : Hardware
hardware = record { latency = λ _. 1; class = λ j. j; busy = λ _. 1; units = λ _. 1 }

-- nine iterations, over cell 0 with a 1 and sixteen with 0
abbrev pub at_times : List ℕ → Case
at_times times = record {
  loop = loop;
  hardware = hardware;
  schedule = timed 1 times;
  trips = 9;
  place = λ v i. i % 9;
  memory = 1 ∷ 0 ∷ 0 ∷ 0 ∷ 0 ∷ 0 ∷ 0 ∷ 0 ∷ 0 ∷ 0 ∷ 0 ∷ 0 ∷ 0 ∷ 0 ∷ 0 ∷ 0 ∷ 0 ∷ [];
}

pub record NineStages (times : List ℕ) : Type 0 where
  -- all that the theorem asks for, but at most eight stages
  pub well_formed : WellFormed loop hardware
  pub is_schedule : IsSchedule loop hardware (timed 1 times)
  pub law : Apart (lives_table loop hardware (timed 1 times)) (at_times times).place
  pub in_memory : InMemory loop 9 (length (at_times times).memory)
  -- there are nine, and the last load comes too early by one cycle
  pub nine : stages (timed 1 times) (length loop) ≡ 9
  pub too_many : FewStages loop (timed 1 times) → ⊥
  pub plain_memory : plain_leaves (at_times times) ≡ 1 ∷ 0 ∷ 0 ∷ 0 ∷ 0 ∷ 0 ∷ 0 ∷ 0 ∷ 1 ∷ 0 ∷ 0 ∷ 0 ∷ 0 ∷ 0 ∷ 0 ∷ 0 ∷ 1 ∷ []
  pub machine_memory : machine_leaves (at_times times) ≡ 1 ∷ 0 ∷ 0 ∷ 0 ∷ 0 ∷ 0 ∷ 0 ∷ 0 ∷ 1 ∷ 0 ∷ 0 ∷ 0 ∷ 0 ∷ 0 ∷ 0 ∷ 0 ∷ 0 ∷ []
  pub no_conclusion : Concluded (at_times times) → ⊥
