-- How many uses one operation has in a row.
use Rattle.std.proofs.Common.{◌≡◌, ℕ, zero, suc, ◌+◌, ◌*◌, ◌/◌, ◌%◌, ◌<◌, ◌≤◌, cond, eqb, ◌⊎◌, sym, refl, ap, ◌∙◌, inl, inr, add_assoc, suc-mul, div-add-mod', mul-suc, arith}
use Rattle.std.proofs.lemmas.Bool.{cases_lt, cases_eq, eq-eqb, ne_eqb}
use Rattle.std.proofs.lemmas.Nat.{mul-le}
use Rattle.model.specs.Loop.{total}
use Rattle.graph_laws.proofs.Total.{total_same, total_longer}
use Rattle.model.specs.Schedule.{uses}

pub total_split : (f : ℕ → ℕ) (m n : ℕ) → total f (m + n) ≡ total f m + total (λ i. f (m + i)) n
total_split f m zero = let e : m + 0 ≡ m = omega arith in rw e (omega arith)
total_split f m (suc n) =
    let e : m + suc n ≡ suc (m + n) = omega arith in
    rw e (omega (arith, total_split f m n))

-- one summand alone
pub total_single : (j x n : ℕ) → total (λ q. cond (eqb q j) x 0) n ≤ x
total_single j x zero = omega arith
total_single j x (suc n) = elim (cases_eq n j) [
  | inl e ↦ rw (eq-eqb n j e) (omega (arith, none n (omega arith)))
  | inr z ↦ rw (ne_eqb n j z) (omega (arith, total_single j x n))
]
  where
    none : (m : ℕ) → m ≤ j → total (λ q. cond (eqb q j) x 0) m ≡ 0
    none zero h = refl
    none (suc m) h = rw (ne_eqb m j (omega arith)) (omega (arith, none m (omega arith)))

-- two cycles of one row are an interval apart
pub apart : (k a b : ℕ) → a < b → b < a + k → a % k ≡ b % k → ⊥
apart k a b l h e = elim (cases_lt (a / k) (b / k)) [
  | inl q ↦ omega (arith, div-add-mod' a k, div-add-mod' b k, mul-le (suc (a / k)) k (b / k) k (omega arith) (omega arith), suc-mul (a / k) k)
  | inr q ↦ omega (arith, div-add-mod' a k, div-add-mod' b k, mul-le (b / k) k (a / k) k (omega arith) (omega arith))
]

-- in at most k cycles a row comes at most once
abbrev Once : ℕ → ℕ → ℕ → ℕ → Type 0
Once k s r m = (uses k s m r ≡ 0) ⊎ ((uses k s m r ≡ 1) × ((b : ℕ) × (b < m) × ((s + b) % k ≡ r)))

once : (k s r m : ℕ) → m ≤ k → Once k s r m
once k s r zero h = inl refl
once k s r (suc m) h = elim (cases_eq ((s + m) % k) r) [
  | inl e ↦ elim (once k s r m (omega arith)) [
    | inl z ↦ rw (eq-eqb _ _ e) (inr (omega arith, (m, omega arith, e)))
    | inr z ↦ absurd (apart k (s + z.1.0) (s + m) (omega (arith, z.1.1)) (omega (arith, z.1.1)) (z.1.2 ∙ sym e))
  ]
  | inr n ↦ elim (once k s r m (omega arith)) [
    | inl z ↦ rw (ne_eqb _ _ n) (inl (omega arith))
    | inr z ↦ rw (ne_eqb _ _ n) (inr (omega arith, (z.1.0, omega (arith, z.1.1), z.1.2)))
  ]
]

pub once_at_most : (k s r m : ℕ) → m ≤ k → uses k s m r ≤ 1
once_at_most k s r m h = elim (once k s r m h) [ inl z ↦ omega arith | inr z ↦ omega arith ]

even : (k t u r : ℕ) → uses k t (k * u) r ≤ u
even k t zero r = let e : k * 0 ≡ 0 = omega arith in rw e (omega arith)
even k t (suc u) r =
    let hit : ℕ → ℕ = λ b. cond (eqb ((t + b) % k) r) 1 0 in
    let more = total_split hit (k * u) k in
    let same = total_same (λ b. hit (k * u + b)) (λ b. cond (eqb (((t + k * u) + b) % k) r) 1 0) k (λ b _. ap (λ x. cond (eqb (x % k) r) 1 0) (sym (add_assoc t (k * u) b))) in
    rw (mul-suc k u) (omega (arith, more, same, once_at_most k (t + k * u) r k (omega arith), even k t u r))

-- An operation alone fits.
pub alone : (k t busy u r : ℕ) → busy ≤ k * u → uses k t busy r ≤ u
alone k t busy u r h = omega (arith, even k t u r, total_longer (λ b. cond (eqb ((t + b) % k) r) 1 0) busy (k * u) h)
