-- What holds of the second case whatever the registers are, and what is left to their values.
use Rattle.std.proofs.Common.{◌≡◌, ℕ, zero, suc, ◌<◌, List, [], ◌∷◌, get_or, sym, refl, ap, ◌∙◌, inl, inr, arith}
use Rattle.std.proofs.lemmas.Bool.Decides.{nat_tests}
use Rattle.std.specs.List.{AllByRecursion}
use Rattle.model.specs.Loop.{op, EachOperand, Named, WellFormed}
use Rattle.model.specs.Edges.{EdgeMet, meets, joins, edges}
use Rattle.model.specs.Schedule.{RowsFit, FewStages}
use Rattle.model.specs.Lives.{Alive}
use Rattle.model.specs.ScheduleLives.{last_read, lives_of, lives_table}
use Rattle.model.specs.Pipelining.{InMemory}
use Rattle.sharpness.specs.Cases.{timed, machine_leaves, plain_leaves}
use Rattle.sharpness.specs.BrokenLaw.{loop, hardware, times, with_registers, BrokenLaw}

named : (q : ℕ) → q < 4 → EachOperand (Named loop q) (op loop q)
unfolding op
named zero h = tt
named (suc zero) h = tt
named (suc (suc zero)) h = ((omega arith, refl, omega arith, omega arith), (omega arith, refl, omega arith, omega arith))
named (suc (suc (suc zero))) h = (omega arith, refl, omega arith, omega arith)
named (suc (suc (suc (suc q)))) h = absurd (omega arith)

well_formed : WellFormed loop hardware
well_formed = record {
  some = omega arith;
  few = omega arith;
  named = named;
  latencies = λ j h. (omega arith, omega arith);
  busies = λ j h. (omega arith, omega arith);
  units = λ j h. (omega arith, omega arith);
}

edges_met : AllByRecursion (EdgeMet (timed 4 times).time 4) (edges loop hardware)
unfolding edges joins meets op
edges_met = (omega arith, (omega arith, (omega arith, tt)))

rows_fit : RowsFit loop hardware (timed 4 times)
rows_fit u r h = grind (arith, nat_tests)

few_stages : FewStages loop (timed 4 times)
few_stages zero h = omega arith
few_stages (suc zero) h = omega arith
few_stages (suc (suc zero)) h = omega arith
few_stages (suc (suc (suc zero))) h = omega arith
few_stages (suc (suc (suc (suc j)))) h = absurd (omega arith)

in_memory : InMemory loop 1 3
unfolding op
in_memory zero i x hj hi (inl e) = omega arith
in_memory zero i x hj hi (inr e) = absurd e
in_memory (suc zero) i x hj hi (inl e) = omega arith
in_memory (suc zero) i x hj hi (inr e) = absurd e
in_memory (suc (suc zero)) i x hj hi (inl e) = absurd e
in_memory (suc (suc zero)) i x hj hi (inr e) = absurd e
in_memory (suc (suc (suc zero))) i x hj hi (inl e) = absurd e
in_memory (suc (suc (suc zero))) i x hj hi (inr e) = omega arith
in_memory (suc (suc (suc (suc j)))) i x hj hi e = absurd (omega arith)

-- the first two live in cycle 1
first_lives : Alive (lives_table loop hardware (timed 4 times)) 0 0 1
unfolding lives_of last_read op
first_lives = record { known = omega arith; begun = omega arith; lasts = omega arith }

second_lives : Alive (lives_table loop hardware (timed 4 times)) 1 0 1
unfolding lives_of last_read op
second_lives = record { known = omega arith; begun = omega arith; lasts = omega arith }

pub broken_law : (registers : List ℕ) → get_or registers 0 0 ≡ get_or registers 1 0 →
    plain_leaves (with_registers registers) ≡ 7 ∷ 5 ∷ 12 ∷ [] →
    machine_leaves (with_registers registers) ≡ 7 ∷ 5 ∷ 10 ∷ [] → BrokenLaw registers
broken_law registers shared plain machine = record {
  well_formed = well_formed;
  is_schedule = record { positive = omega arith; edges_met = edges_met; rows_fit = rows_fit };
  few_stages = few_stages;
  in_memory = in_memory;
  unlawful = λ law. let same = law 0 0 1 0 1 first_lives second_lives shared in omega (arith, same.0);
  plain_memory = plain;
  machine_memory = machine;
  no_conclusion = λ says. let both = sym machine ∙ says.same_memory ∙ plain in let z : ◌≡◌ {A = ℕ} 10 12 = ap (λ xs. get_or xs 2 0) both in omega arith;
}
