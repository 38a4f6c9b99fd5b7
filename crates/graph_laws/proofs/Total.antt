-- Sums over the numbers below n.
use Rattle.std.proofs.Common.{◌≡◌, ℕ, zero, suc, ◌+◌, ◌-◌, ◌<◌, ◌≤◌, cond, ltb, sym, refl, ap, ◌∙◌, ap₂, inl, inr, arith}
use native.Mathlib.Nat.{suc-sub-suc, sub-zero}
use Rattle.std.proofs.lemmas.Bool.{cases_lt, cases_eq, lt-ltb, le-ltb}
use Rattle.model.specs.Loop.{total}

pub total_le : (f g : ℕ → ℕ) (n : ℕ) → ((i : ℕ) → i < n → f i ≤ g i) → total f n ≤ total g n
total_le f g zero h = omega arith
total_le f g (suc n) h = omega (arith, h n (omega arith), total_le f g n (λ i l. h i (omega arith)))

pub total_same : (f g : ℕ → ℕ) (n : ℕ) → ((i : ℕ) → i < n → f i ≡ g i) → total f n ≡ total g n
total_same f g zero h = refl
total_same f g (suc n) h = ap₂ ◌+◌ (total_same f g n (λ i l. h i (omega arith))) (h n (omega arith))

pub total_zero : (n : ℕ) → total (λ _. 0) n ≡ 0
total_zero zero = refl
total_zero (suc n) = omega (arith, total_zero n)

pub total_add : (f g : ℕ → ℕ) (n : ℕ) → total (λ i. f i + g i) n ≡ total f n + total g n
total_add f g zero = refl
total_add f g (suc n) = omega (arith, total_add f g n)

pub total_swap : (f : ℕ → ℕ → ℕ) (m n : ℕ) → total (λ i. total (f i) n) m ≡ total (λ j. total (λ i. f i j) m) n
total_swap f zero n = sym (total_zero n)
total_swap f (suc m) n = omega (arith, total_swap f m n, total_add (λ j. total (λ i. f i j) m) (f m) n)

pub total_longer : (f : ℕ → ℕ) (m n : ℕ) → m ≤ n → total f m ≤ total f n
total_longer f m zero h = let e : m ≡ 0 = omega arith in rw e (omega arith)
total_longer f m (suc n) h = elim (cases_eq m (suc n)) [ inl e ↦ rw e (omega arith) | inr z ↦ omega (arith, total_longer f m n (omega arith)) ]

total_first : (f : ℕ → ℕ) (n : ℕ) → total f (suc n) ≡ f 0 + total (λ i. f (suc i)) n
total_first f zero = omega arith
total_first f (suc n) = omega (arith, total_first f n)

-- backwards
pub total_back : (f : ℕ → ℕ) (y : ℕ) → total (λ c. f (y - c)) (suc y) ≡ total f (suc y)
total_back f zero = refl
total_back f (suc y) =
    total_first (λ c. f (suc y - c)) (suc y) ∙
    omega (arith, total_same (λ c. f (suc y - suc c)) (λ c. f (y - c)) (suc y) (λ c _. ap f (suc-sub-suc y c)), total_back f y, ap f (sub-zero (suc y)))

-- what is cut off at m
pub total_cut : (f : ℕ → ℕ) (m n : ℕ) → total (λ b. cond (ltb b m) (f b) 0) n ≤ total f m
total_cut f m zero = omega arith
total_cut f m (suc n) = elim (cases_lt n m) [
  | inl l ↦ rw (lt-ltb n m l) (omega (arith, total_longer f (suc n) m l, total_le (λ b. cond (ltb b m) (f b) 0) f n (λ b _. below b)))
  | inr g ↦ rw (le-ltb n m g) (omega (arith, total_cut f m n))
]
  where
    below : (b : ℕ) → cond (ltb b m) (f b) 0 ≤ f b
    below b = elim (cases_lt b m) [ inl l ↦ rw (lt-ltb b m l) (omega arith) | inr g ↦ rw (le-ltb b m g) (omega arith) ]
