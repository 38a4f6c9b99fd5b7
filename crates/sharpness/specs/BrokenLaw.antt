-- Places that break the law: two lives that share a cycle have one register.
use Rattle.std.specs.Prelude.{◌≡◌, ℕ, List, [], ◌∷◌, length}
use Rattle.model.specs.Loop.{Loop, variable, load, store, binary, Hardware, WellFormed}
use Rattle.model.specs.declared.Operator.TheVariants.{Plus}
use Rattle.model.specs.Schedule.{IsSchedule, FewStages}
use Rattle.model.specs.ScheduleLives.{lives_table}
use Rattle.model.specs.Schemes.{Apart}
use Rattle.model.specs.Pipelining.{InMemory}
use Rattle.sharpness.specs.Cases.{Case, timed, fixed, machine_leaves, plain_leaves, Concluded}

-- a = load 0 0; b = load 0 1; c = add a b; store c 0 2
abbrev pub loop : Loop
loop = load 0 0 ∷ load 0 1 ∷ binary Plus (variable 0 0) (variable 1 0) ∷ store (variable 2 0) 0 2 ∷ []

-- one class of one unit, every latency 1
abbrev pub hardware : Hardware
hardware = record { latency = λ _. 1; class = λ _. 0; busy = λ _. 1; units = λ _. 1 }

abbrev pub times : List ℕ
times = 0 ∷ 1 ∷ 2 ∷ 3 ∷ []

abbrev pub with_registers : List ℕ → Case
with_registers registers = record {
  loop = loop;
  hardware = hardware;
  schedule = timed 4 times;
  trips = 1;
  place = fixed registers;
  memory = 7 ∷ 5 ∷ 0 ∷ [];
}

pub record BrokenLaw (registers : List ℕ) : Type 0 where
  -- all that the theorem asks for, but the law of places
  pub well_formed : WellFormed loop hardware
  pub is_schedule : IsSchedule loop hardware (timed 4 times)
  pub few_stages : FewStages loop (timed 4 times)
  pub in_memory : InMemory loop 1 (length (with_registers registers).memory)
  -- the law does not hold, and the sum takes the second value twice
  pub unlawful : Apart (lives_table loop hardware (timed 4 times)) (fixed registers) → ⊥
  pub plain_memory : plain_leaves (with_registers registers) ≡ 7 ∷ 5 ∷ 12 ∷ []
  pub machine_memory : machine_leaves (with_registers registers) ≡ 7 ∷ 5 ∷ 10 ∷ []
  pub no_conclusion : Concluded (with_registers registers) → ⊥
