-- A schedule that meets every edge but one memory edge.
use Rattle.std.specs.Prelude.{◌≡◌, ℕ, List, [], ◌∷◌, length, pos}
use Rattle.model.specs.Loop.{Loop, literal, variable, load, store, Hardware, WellFormed}
use Rattle.model.specs.declared.Edge.{Edge}
use Rattle.model.specs.Edges.{EdgeMet, edges}
use Rattle.model.specs.Schedule.{RowsFit, FewStages}
use Rattle.model.specs.ScheduleLives.{lives_table}
use Rattle.model.specs.Schemes.{Apart}
use Rattle.model.specs.Pipelining.{InMemory}
use Rattle.sharpness.specs.Cases.{Case, timed, machine_leaves, plain_leaves, Concluded}

-- store 5 1 0; b = load 1 0; store b 1 8
abbrev pub loop : Loop
loop = store (literal (pos 5)) 1 0 ∷ load 1 0 ∷ store (variable 1 0) 1 8 ∷ []

-- one class of two units, every latency 1
abbrev pub hardware : Hardware
hardware = record { latency = λ _. 1; class = λ _. 0; busy = λ _. 1; units = λ _. 2 }

-- from the load to the store of what it loads; from the first store to the load of its cell
abbrev pub by_operand : Edge
by_operand = record { from = 1; to = 2; delay = 1; distance = 0 }

abbrev pub by_memory : Edge
by_memory = record { from = 0; to = 1; delay = 1; distance = 0 }

abbrev pub at_times : List ℕ → Case
at_times times = record {
  loop = loop;
  hardware = hardware;
  schedule = timed 3 times;
  trips = 1;
  place = λ v i. 0;
  memory = 0 ∷ 0 ∷ 0 ∷ 0 ∷ 0 ∷ 0 ∷ 0 ∷ 0 ∷ 0 ∷ [];
}

pub record BrokenEdge (times : List ℕ) : Type 0 where
  -- all that the theorem asks for, but that the memory edge is met
  pub well_formed : WellFormed loop hardware
  pub two_edges : edges loop hardware ≡ by_operand ∷ by_memory ∷ []
  pub operand_met : EdgeMet (timed 3 times).time 3 by_operand
  pub rows_fit : RowsFit loop hardware (timed 3 times)
  pub few_stages : FewStages loop (timed 3 times)
  pub law : Apart (lives_table loop hardware (timed 3 times)) (at_times times).place
  pub in_memory : InMemory loop 1 (length (at_times times).memory)
  -- the edge is not met, and the load misses the store
  pub memory_unmet : EdgeMet (timed 3 times).time 3 by_memory → ⊥
  pub plain_memory : plain_leaves (at_times times) ≡ 5 ∷ 0 ∷ 0 ∷ 0 ∷ 0 ∷ 0 ∷ 0 ∷ 0 ∷ 5 ∷ []
  pub machine_memory : machine_leaves (at_times times) ≡ 5 ∷ 0 ∷ 0 ∷ 0 ∷ 0 ∷ 0 ∷ 0 ∷ 0 ∷ 0 ∷ []
  pub no_conclusion : Concluded (at_times times) → ⊥
