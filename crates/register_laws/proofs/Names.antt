-- There is a name for each variable, each copy below the turns and 0 to 14 passes back, and no other.
use Rattle.std.proofs.Common.{◌≡◌, ℕ, ◌<◌, ◌≤◌, cond, ◌&&◌, ltb, leb, arith}
use Rattle.std.proofs.lemmas.Bool.Decides.{nat_tests}

module _ (n U v c r x : ℕ) where
  pub named : v < n → c < U → r ≤ 14 → cond (ltb v n && (ltb c U && leb r 14)) x 0 ≡ x
  named hv hc hr = grind (arith, nat_tests)

  pub unnamed : ((v < n) × (c < U) × (r ≤ 14) → ⊥) → cond (ltb v n && (ltb c U && leb r 14)) x 0 ≡ 0
  unnamed none = grind (arith, nat_tests)

  pub named_below : (top : ℕ) → 0 < top → (v < n → c < U → x < top) → cond (ltb v n && (ltb c U && leb r 14)) x 0 < top
  named_below top some h = grind (arith, nat_tests)
