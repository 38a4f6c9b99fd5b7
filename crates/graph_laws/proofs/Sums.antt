-- Greatest values, one more at a time.
use Rattle.std.proofs.Common.{◌≡◌, ℕ, zero, suc, ◌+◌, ◌<◌, ◌≤◌, sym, ap, inl, inr, add-one, arith}
use Rattle.std.proofs.lemmas.Bool.{cases_eq}
use Rattle.model.specs.Minimum.{greatest}
use Rattle.graph_laws.specs.Trails.{Leads}

pub greatest_above : (f : ℕ → ℕ) (n v : ℕ) → v < n → f v ≤ greatest f n
greatest_above f zero v l = absurd (omega arith)
greatest_above f (suc n) v l = elim (cases_eq v n) [ inl e ↦ omega (arith, ap f e) | inr z ↦ omega (arith, greatest_above f n v (omega arith)) ]

pub takes_lead : (f : ℕ → ℕ) (n k u own : ℕ) → Leads f n k u → own ≡ f n → k < own → Leads f (n + 1) own n
takes_lead f n k u own h is more = (
  rw add-one (omega (arith, h.0, is)),
  λ _. (omega arith, sym is, λ v l. omega (arith, greatest_above f n v l, h.0)),
)

pub keeps_lead : (f : ℕ → ℕ) (n k u own : ℕ) → Leads f n k u → own ≡ f n → own ≤ k → Leads f (n + 1) k u
keeps_lead f n k u own h is less = (
  rw add-one (omega (arith, h.0, is)),
  λ some. let s = h.1 some in (omega (arith, s.0), s.1, s.2),
)
