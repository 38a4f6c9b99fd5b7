-- What holds of the first case whatever the times are, and what is left to their values.
use Rattle.std.proofs.Common.{◌≡◌, ℕ, zero, suc, ◌+◌, ◌<◌, ◌≤◌, List, [], ◌∷◌, get_or, sym, refl, ap, ◌∙◌, inl, inr, arith}
use Rattle.model.specs.Loop.{op, EachOperand, Named, WellFormed}
use Rattle.model.specs.Edges.{meets, joins, edges}
use Rattle.model.specs.Schedule.{RowsFit, FewStages}
use Rattle.model.specs.ScheduleLives.{last_read, lives_of, lives_table}
use Rattle.model.specs.Schemes.{Apart}
use Rattle.model.specs.Pipelining.{InMemory}
use Rattle.sharpness.specs.Cases.{timed, machine_leaves, plain_leaves}
use Rattle.sharpness.specs.BrokenEdge.{loop, hardware, by_operand, by_memory, at_times, BrokenEdge}

named : (q : ℕ) → q < 3 → EachOperand (Named loop q) (op loop q)
unfolding op
named zero h = tt
named (suc zero) h = tt
named (suc (suc zero)) h = (omega arith, refl, omega arith, omega arith)
named (suc (suc (suc q))) h = absurd (omega arith)

well_formed : WellFormed loop hardware
well_formed = record {
  some = omega arith;
  few = omega arith;
  named = named;
  latencies = λ j h. (omega arith, omega arith);
  busies = λ j h. (omega arith, omega arith);
  units = λ j h. (omega arith, omega arith);
}

two_edges : edges loop hardware ≡ by_operand ∷ by_memory ∷ []
unfolding edges joins meets op
two_edges = refl

in_memory : InMemory loop 1 9
unfolding op
in_memory zero i x hj hi (inl e) = absurd e
in_memory zero i x hj hi (inr e) = omega arith
in_memory (suc zero) i x hj hi (inl e) = omega arith
in_memory (suc zero) i x hj hi (inr e) = absurd e
in_memory (suc (suc zero)) i x hj hi (inl e) = absurd e
in_memory (suc (suc zero)) i x hj hi (inr e) = omega arith
in_memory (suc (suc (suc j))) i x hj hi e = absurd (omega arith)

module _ (times : List ℕ) where
  -- one life, shorter than the interval
  law : get_or times 2 0 < get_or times 1 0 + 3 → Apart (lives_table loop hardware (timed 3 times)) (λ v i. 0)
  unfolding lives_of last_read op
  law h zero i zero j c a b same = (refl, omega (arith, a.begun, a.lasts, b.begun, b.lasts))
  law h zero i (suc w) j c a b same = absurd (omega (arith, b.known))
  law h (suc v) i w j c a b same = absurd (omega (arith, a.known))

  few_stages : get_or times 0 0 < 24 → get_or times 1 0 < 24 → get_or times 2 0 < 24 → FewStages loop (timed 3 times)
  few_stages a b c zero h = a
  few_stages a b c (suc zero) h = b
  few_stages a b c (suc (suc zero)) h = c
  few_stages a b c (suc (suc (suc j))) h = absurd (omega arith)

  pub broken_edge : get_or times 1 0 + 1 ≤ get_or times 2 0 → get_or times 2 0 < get_or times 1 0 + 3 →
      get_or times 0 0 < 24 → get_or times 1 0 < 24 → get_or times 2 0 < 24 → RowsFit loop hardware (timed 3 times) →
      get_or times 1 0 < get_or times 0 0 + 1 →
      plain_leaves (at_times times) ≡ 5 ∷ 0 ∷ 0 ∷ 0 ∷ 0 ∷ 0 ∷ 0 ∷ 0 ∷ 5 ∷ [] →
      machine_leaves (at_times times) ≡ 5 ∷ 0 ∷ 0 ∷ 0 ∷ 0 ∷ 0 ∷ 0 ∷ 0 ∷ 0 ∷ [] → BrokenEdge times
  broken_edge met short a b c fit unmet plain machine = record {
    well_formed = well_formed;
    two_edges = two_edges;
    operand_met = omega arith;
    rows_fit = fit;
    few_stages = few_stages a b c;
    law = law short;
    in_memory = in_memory;
    memory_unmet = λ e. omega arith;
    plain_memory = plain;
    machine_memory = machine;
    no_conclusion = λ says. let both = sym machine ∙ says.same_memory ∙ plain in let z : ◌≡◌ {A = ℕ} 0 5 = ap (λ xs. get_or xs 8 0) both in omega arith;
  }
