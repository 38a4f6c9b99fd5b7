-- What holds of the third case whatever the times are, and what is left to their values.
use Rattle.std.proofs.Common.{◌≡◌, ℕ, zero, suc, ◌+◌, ◌/◌, ◌%◌, ◌<◌, ◌≤◌, List, [], ◌∷◌, get_or, sym, refl, ap, ◌∙◌, inl, inr, arith}
use Rattle.std.specs.List.{AllByRecursion}
use Rattle.std.proofs.lemmas.Bool.{cases_order}
use Rattle.model.specs.Loop.{op, EachOperand, Named, WellFormed}
use Rattle.model.specs.Edges.{EdgeMet, meets, joins, edges}
use Rattle.model.specs.Schedule.{stages, RowsFit}
use Rattle.model.specs.ScheduleLives.{last_read, lives_of, lives_table}
use Rattle.model.specs.Schemes.{Apart}
use Rattle.model.specs.Pipelining.{InMemory}
use Rattle.sharpness.specs.Cases.{timed, machine_leaves, plain_leaves}
use Rattle.sharpness.specs.NineStages.{loop, hardware, at_times, NineStages}

named : (q : ℕ) → q < 2 → EachOperand (Named loop q) (op loop q)
unfolding op
named zero h = tt
named (suc zero) h = (omega arith, refl, omega arith, omega arith)
named (suc (suc q)) h = absurd (omega arith)

well_formed : WellFormed loop hardware
well_formed = record {
  some = omega arith;
  few = omega arith;
  named = named;
  latencies = λ j h. (omega arith, omega arith);
  busies = λ j h. (omega arith, omega arith);
  units = λ j h. (omega arith, omega arith);
}

in_memory : InMemory loop 9 17
unfolding op
in_memory zero i x hj hi (inl e) = omega arith
in_memory zero i x hj hi (inr e) = absurd e
in_memory (suc zero) i x hj hi (inl e) = absurd e
in_memory (suc zero) i x hj hi (inr e) = omega arith
in_memory (suc (suc j)) i x hj hi e = absurd (omega arith)

same_turn : (i m : ℕ) → i % 9 ≡ m % 9 → i ≤ m + 8 → m ≤ i + 8 → i ≡ m
same_turn i m e h k = elim (cases_order (i / 9) (m / 9)) [ inl q ↦ omega arith | inr (inl l) ↦ omega arith | inr (inr g) ↦ omega arith ]

module _ (times : List ℕ) where
  edges_met : get_or times 0 0 + 1 ≤ get_or times 1 0 → AllByRecursion (EdgeMet (timed 1 times).time 1) (edges loop hardware)
  unfolding edges joins meets op
  edges_met h = (omega arith, tt)

  law : get_or times 1 0 ≤ get_or times 0 0 + 8 → Apart (lives_table loop hardware (timed 1 times)) (λ v i. i % 9)
  unfolding lives_of last_read op
  law h zero i zero j c a b same =
      (refl, same_turn i j same (omega (arith, a.begun, b.lasts)) (omega (arith, b.begun, a.lasts)))
  law h zero i (suc w) j c a b same = absurd (omega (arith, b.known))
  law h (suc v) i w j c a b same = absurd (omega (arith, a.known))

  pub nine_stages : get_or times 0 0 + 1 ≤ get_or times 1 0 → get_or times 1 0 ≤ get_or times 0 0 + 8 → RowsFit loop hardware (timed 1 times) →
      stages (timed 1 times) 2 ≡ 9 → 8 ≤ get_or times 1 0 →
      plain_leaves (at_times times) ≡ 1 ∷ 0 ∷ 0 ∷ 0 ∷ 0 ∷ 0 ∷ 0 ∷ 0 ∷ 1 ∷ 0 ∷ 0 ∷ 0 ∷ 0 ∷ 0 ∷ 0 ∷ 0 ∷ 1 ∷ [] →
      machine_leaves (at_times times) ≡ 1 ∷ 0 ∷ 0 ∷ 0 ∷ 0 ∷ 0 ∷ 0 ∷ 0 ∷ 1 ∷ 0 ∷ 0 ∷ 0 ∷ 0 ∷ 0 ∷ 0 ∷ 0 ∷ 0 ∷ [] → NineStages times
  nine_stages met short fit nine late plain machine = record {
    well_formed = well_formed;
    is_schedule = record { positive = omega arith; edges_met = edges_met met; rows_fit = fit };
    law = law short;
    in_memory = in_memory;
    nine = nine;
    too_many = λ few. omega (arith, few 1 (omega arith));
    plain_memory = plain;
    machine_memory = machine;
    no_conclusion = λ says. let both = sym machine ∙ says.same_memory ∙ plain in let z : ◌≡◌ {A = ℕ} 0 1 = ap (λ xs. get_or xs 16 0) both in omega arith;
  }
