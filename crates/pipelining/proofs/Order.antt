-- The plain order of instances, in two ways: by iteration and operation, and by one number i * n + j.
use Rattle.std.proofs.Common.{◌≡◌, ℕ, ◌+◌, ◌*◌, ◌/◌, ◌%◌, ◌<◌, sym, ap, ◌∙◌, inl, inr, mul-le-mul_right, mod-lt, div-add-mod', arith}
use Rattle.std.proofs.lemmas.Bool.{cases_order}
use Rattle.model.specs.MemoryOrder.{Earlier}

-- The operation and the iteration of two different numbers differ.
pub apart : (n a b : ℕ) → (a % n ≡ b % n) → (a / n ≡ b / n) → a ≡ b
apart n a b p q = sym (div-add-mod' a n) ∙ rw (p, q) (div-add-mod' b n)

pub earlier_of_lt : (n a b : ℕ) → 0 < n → a < b → Earlier (a % n) (a / n) (b % n) (b / n)
earlier_of_lt n a b pos h =
    elim (cases_order (a / n) (b / n)) [
      | inl e ↦ inr (e, omega (arith, div-add-mod' a n, div-add-mod' b n, ap (λ q. q * n) e))
      | inr (inl l) ↦ inl l
      | inr (inr g) ↦ absurd (omega (arith, div-add-mod' a n, div-add-mod' b n, mul-le-mul_right n g, mod-lt b pos))
    ]

pub lt_of_earlier : (n p i q m : ℕ) → p < n → Earlier p i q m → i * n + p < m * n + q
lt_of_earlier n p i q m hp (inl h) = omega (arith, mul-le-mul_right n h)
lt_of_earlier n p i q m hp (inr e) = rw e.0 (omega arith)
