-- A list of different numbers below n has at most n of them.
use Rattle.std.proofs.Common.{◌≡◌, ℕ, zero, suc, ◌+◌, ◌<◌, ◌≤◌, cond, eqb, List, [], ◌∷◌, length, sym, refl, inl, inr, arith}
use Rattle.std.specs.List.{AllByRecursion}
use Rattle.std.proofs.lemmas.Bool.{cases_eq, eq-eqb, ne_eqb}
use Rattle.model.specs.Loop.{total}
use Rattle.model.specs.Walks.{Absent, Distinct}
use Rattle.graph_laws.proofs.Total.{total_le, total_zero, total_add}

hit_past : (y n : ℕ) → n ≤ y → total (λ v. cond (eqb y v) 1 0) n ≡ 0
hit_past y zero h = refl
hit_past y (suc n) h = rw (ne_eqb y n (λ e. omega arith)) (omega (arith, hit_past y n (omega arith)))

-- one of the numbers below n is y
pub total_hit : (y n : ℕ) → y < n → total (λ v. cond (eqb y v) 1 0) n ≡ 1
total_hit y zero h = absurd (omega arith)
total_hit y (suc n) h = elim (cases_eq y n) [
  | inl e ↦ rw (eq-eqb y n e) (omega (arith, hit_past y n (omega arith)))
  | inr z ↦ rw (ne_eqb y n z) (omega (arith, total_hit y n (omega arith)))
]

abbrev count : List ℕ → ℕ → ℕ
count [] v = 0
count (y ∷ ys) v = cond (eqb y v) 1 0 + count ys v

pub total_ones : (n : ℕ) → total (λ _. 1) n ≡ n
total_ones zero = refl
total_ones (suc n) = omega (arith, total_ones n)

counted : (n : ℕ) (ys : List ℕ) → AllByRecursion (λ y. y < n) ys → total (count ys) n ≡ length ys
counted n [] h = total_zero n
counted n (y ∷ ys) h = omega (arith, total_add (λ v. cond (eqb y v) 1 0) (count ys) n, total_hit y n h.0, counted n ys h.1)

absent_count : (v : ℕ) (ys : List ℕ) → Absent v ys → count ys v ≡ 0
absent_count v [] h = refl
absent_count v (y ∷ ys) h = rw (ne_eqb y v (λ e. h.0 (sym e))) (omega (arith, absent_count v ys h.1))

once : (v : ℕ) (ys : List ℕ) → Distinct ys → count ys v ≤ 1
once v [] h = omega arith
once v (y ∷ ys) h = elim (cases_eq y v) [
  | inl e ↦ rw (eq-eqb y v e) (omega (arith, absent_count v ys (rw e at h.0)))
  | inr n ↦ rw (ne_eqb y v n) (omega (arith, once v ys h.1))
]

pub pigeons : (n : ℕ) (ys : List ℕ) → Distinct ys → AllByRecursion (λ y. y < n) ys → length ys ≤ n
pigeons n ys d h = omega (arith, counted n ys h, total_le (count ys) (λ _. 1) n (λ v _. once v ys d), total_ones n)
