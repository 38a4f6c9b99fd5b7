-- Differences modulo m.
use Rattle.std.proofs.Common.{◌≡◌, ℕ, ◌+◌, ◌-◌, ◌*◌, ◌%◌, ◌<◌, ◌≤◌, ap, ◌∙◌, add-mul, arith}
use native.Mathlib.Nat.{mod-add-mod, add-mul-mod_self_left}
use Rattle.model.specs.Schemes.{less}

-- m b is b and m - 1 times b
pub split : (m b : ℕ) → 0 < m → (m - 1) * b + b ≡ m * b
split m b some =
    let e : m - 1 + 1 ≡ m = omega arith in
    let p = rw e at (add-mul (m - 1) 1 b) in
    omega arith

-- forth by r and back by p is back by p - r
pub forth_and_back : (a r p : ℕ) → r ≤ p → less 64 ((a + r) % 64) p ≡ less 64 a (p - r)
forth_and_back a r p h =
    let e : a + r + 63 * p ≡ a + 63 * (p - r) + 64 * r = omega arith in
    mod-add-mod (a + r) 64 (63 * p) ∙ ap (λ x. x % 64) e ∙ add-mul-mod_self_left (a + 63 * (p - r)) 64 r

-- p mod m, back by r, is p - r modulo m
pub back_of_mod : (m p r : ℕ) → 0 < m → r ≤ p → less m (p % m) r ≡ (p - r) % m
back_of_mod m p r some h =
    let s = split m r some in
    let e : p + (m - 1) * r ≡ p - r + m * r = omega arith in
    mod-add-mod p m ((m - 1) * r) ∙ ap (λ x. x % m) e ∙ add-mul-mod_self_left (p - r) m r
