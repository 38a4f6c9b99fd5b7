-- The sequential times are a schedule: no two uses share a row.
use Rattle.std.proofs.Common.{◌≡◌, ℕ, zero, suc, ◌+◌, ◌%◌, ◌<◌, ◌≤◌, cond, eqb, length, sym, refl, ap, ◌∙◌, inl, inr, mod-eq_of_lt, arith}
use Rattle.std.proofs.lemmas.Bool.{cases_eq, cases_lt, cases_Bool, eq-eqb, ne_eqb}
use Rattle.model.specs.Loop.{Loop, Hardware, total}
use Rattle.model.specs.Schedule.{row_uses, sequential}
use Rattle.model.specs.GraphLaws.{SequentialIsSchedule}
use Rattle.graph_laws.proofs.Total.{total_le, total_same, total_zero, total_longer}
use Rattle.graph_laws.proofs.Pigeons.{total_hit}
use Rattle.graph_laws.proofs.Upper.{sequential_met}

total_add_end : (f : ℕ → ℕ) (a m : ℕ) → total f (a + m) ≡ total f a + total (λ b. f (a + b)) m
total_add_end f a zero =
    let e : a + 0 ≡ a = omega arith in
    rw e (omega arith)
total_add_end f a (suc m) =
    let e : a + suc m ≡ suc (a + m) = omega arith in
    rw e (omega (arith, total_add_end f a m))

-- the sum over all cycles, operation by operation
total_flat : (f l : ℕ → ℕ) (n : ℕ) → total f (total l n) ≡ total (λ j. total (λ b. f (total l j + b)) (l j)) n
total_flat f l zero = refl
total_flat f l (suc n) = omega (arith, total_add_end f (total l n) (l n), total_flat f l n)

module _ (ops : Loop) (hw : Hardware) (short : (j : ℕ) → j < length ops → hw.busy j ≤ hw.latency j) where
  abbrev whole : ℕ
  whole = total hw.latency (length ops)

  in_row : (r j b : ℕ) → j < length ops → b < hw.latency j →
      ◌≡◌ {A = ℕ} (cond (eqb ((total hw.latency j + b) % whole) r) 1 0) (cond (eqb r (total hw.latency j + b)) 1 0)
  in_row r j b hj hb =
      let inside : total hw.latency j + b < whole = omega (arith, total_longer hw.latency (suc j) (length ops) hj) in
      rw (mod-eq_of_lt inside) (turn (total hw.latency j + b))
    where
      turn : (x : ℕ) → ◌≡◌ {A = ℕ} (cond (eqb x r) 1 0) (cond (eqb r x) 1 0)
      turn x = elim (cases_eq x r) [
        | inl e ↦ rw (eq-eqb x r e, eq-eqb r x (sym e))
        | inr n ↦ rw (ne_eqb x r n, ne_eqb r x (λ e. n (sym e)))
      ]

  of_operation : (u r j : ℕ) → j < length ops →
      cond (eqb (hw.class j) u) (total (λ b. cond (eqb ((total hw.latency j + b) % whole) r) 1 0) (hw.busy j)) 0 ≤
      total (λ b. cond (eqb r (total hw.latency j + b)) 1 0) (hw.latency j)
  of_operation u r j hj = elim (cases_Bool (eqb (hw.class j) u)) [
    | inl e ↦ rw e (omega (
      arith,
      total_same (λ b. cond (eqb ((total hw.latency j + b) % whole) r) 1 0) (λ b. cond (eqb r (total hw.latency j + b)) 1 0) (hw.busy j) (λ b hb. in_row r j b hj (omega (arith, short j hj))),
      total_longer (λ b. cond (eqb r (total hw.latency j + b)) 1 0) (hw.busy j) (hw.latency j) (short j hj),
    ))
    | inr e ↦ rw e (omega arith)
  ]

  one_use : (u r : ℕ) → r < whole → row_uses ops hw (sequential ops hw) u r ≤ 1
  one_use u r hr = omega (
    arith,
    total_le _ (λ j. total (λ b. cond (eqb r (total hw.latency j + b)) 1 0) (hw.latency j)) (length ops) (λ j hj. of_operation u r j hj),
    total_flat (λ c. cond (eqb r c) 1 0) hw.latency (length ops),
    total_hit r whole hr,
  )

  no_use : (u r : ℕ) → ((j : ℕ) → j < length ops → hw.class j ≡ u → ⊥) → row_uses ops hw (sequential ops hw) u r ≡ 0
  no_use u r none = total_same _ (λ _. 0) (length ops) (λ j hj. rw (ne_eqb (hw.class j) u (none j hj))) ∙ total_zero (length ops)

pub sequential_is_schedule : SequentialIsSchedule
sequential_is_schedule ops hw formed = record {
  positive = omega (arith, total_longer hw.latency 1 (length ops) formed.some, (formed.latencies 0 formed.some).0);
  edges_met = sequential_met ops hw formed;
  rows_fit = λ u r hr. elim (cases_lt 0 (hw.units u)) [
    | inl l ↦ omega (arith, one_use ops hw short u r hr)
    | inr g ↦ omega (arith, no_use ops hw short u r (λ j hj e. omega (arith, (formed.units j hj).0, ap hw.units e)))
  ];
}
  where
    short : (j : ℕ) → j < length ops → hw.busy j ≤ hw.latency j
    short j l = (formed.busies j l).1
