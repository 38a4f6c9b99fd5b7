-- Every instance issues within the cycles of a run; and a schedule is sound.
use Rattle.std.proofs.Common.{◌≡◌, ℕ, zero, suc, ◌+◌, ◌-◌, ◌*◌, ◌<◌, ◌≤◌, length, refl, inl, inr, mul-le-mul_right, div-lt_iff_lt-mul, zero-mul, arith}
use native.Mathlib.Nat.{lt-div-mul-add}
use Rattle.std.proofs.lemmas.Bool.{cases_eq, eq-eqb, ne_eqb}
use Rattle.model.specs.Loop.{Loop, Operation, load, store, binary, move, Stores, Hardware, WellFormed}
use Rattle.model.specs.Edges.{memory_delay}
use Rattle.model.specs.Schedule.{Schedule, stage, stages, IsSchedule, FewStages}
use Rattle.model.specs.MemoryOrder.{issue_cycle}
use Rattle.model.specs.Issues.{cycles}
use Rattle.model.specs.Pipelining.{InMemory, StagesByTimes}
use Rattle.graph_laws.proofs.Memory.{memory_in_order, operands_landed}
use Rattle.pipelining.proofs.Sound.{Sound}

pub stage_below : (w : Schedule) (n j : ℕ) → j < n → stage w j < stages w n
stage_below w zero j h = absurd (omega arith)
stage_below w (suc n) j h = elim (cases_eq j n) [ inl e ↦ rw e (omega arith) | inr z ↦ omega (arith, stage_below w n j (omega arith)) ]

stages_below : (w : Schedule) (n b : ℕ) → ((j : ℕ) → j < n → stage w j < b) → stages w n ≤ b
stages_below w zero b h = omega arith
stages_below w (suc n) b h = omega (arith, stages_below w n b (λ j l. h j (omega arith)), h n (omega arith))

pub stages_by_times : StagesByTimes
stages_by_times ops w pos = (
  (λ h j hj. (div-lt_iff_lt-mul {x = w.time j} pos).0 (omega (arith, stage_below w (length ops) j hj))),
  (λ few. stages_below w (length ops) 8 (λ j hj. (div-lt_iff_lt-mul {x = w.time j} pos).1 (few j hj))),
)

pub no_cycles : (w : Schedule) (n trips : ℕ) → trips ≡ 0 → cycles w n trips ≡ 0
no_cycles w n trips e = rw (eq-eqb trips 0 e) (zero-mul w.interval)

pub all_cycles : (w : Schedule) (n trips : ℕ) → 0 < trips → cycles w n trips ≡ (trips + stages w n - 1) * w.interval
all_cycles w n trips h = let some : trips ≡ 0 → ⊥ = omega arith in rw (ne_eqb trips 0 some)

pub all_issue : (w : Schedule) (n trips j i : ℕ) → 0 < w.interval → j < n → i < trips → issue_cycle w j i < cycles w n trips
all_issue w n trips j i pos hj hi =
    let last : stage w j + 1 + i ≤ trips + stages w n - 1 = omega (arith, stage_below w n j hj) in
    rw (all_cycles w n trips (omega arith)) (omega (arith, lt-div-mul-add {a = w.time j} pos, mul-le-mul_right w.interval last))

store_delay : {A : Type 0} (o : Operation A) (i x : ℕ) → Stores o i x → memory_delay o ≡ 1
store_delay (load s a) i x e = absurd e
store_delay (store v s a) i x e = refl
store_delay (binary c v y) i x e = absurd e
store_delay (move v) i x e = absurd e

pub sound_schedule : (ops : Loop) (hw : Hardware) (w : Schedule) (trips cells : ℕ) → WellFormed ops hw → IsSchedule ops hw w → FewStages ops w →
    InMemory ops trips cells → Sound ops hw w trips cells
sound_schedule ops hw w trips cells formed s few «in» = record {
  positive = s.positive;
  formed = formed;
  operands = operands_landed ops hw w s;
  within = «in»;
  store_first = λ p i q m x hp hq _ _ e st t.
      omega (arith, memory_in_order ops hw w s few p i q m x hp hq e (inr st) t (inl st), store_delay _ i x st);
  load_first = λ p i q m x hp hq _ _ e l st.
      omega (arith, memory_in_order ops hw w s few p i q m x hp hq e (inl l) (inr st) (inr st));
}
