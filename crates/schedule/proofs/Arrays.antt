-- Arrays that a closure makes.
use Rattle.std.proofs.Common.{◌≡◌, ℕ, zero, suc, ◌+◌, ◌-◌, ◌<◌, List, get_or, ◌∙◌, subst, inl, inr, add-zero, arith}
use Rattle.std.proofs.lemmas.Bool.{cases_eq}
use Rattle.std.specs.Array.{IsFromFnResult, IsFromFnResultFrom}
use denote.Param.Members.{Mut, Called}

-- what a closure that changes nothing gave at each number
module _ {F B : Type 0} (g : Mut F (ℕ × Unit {0}) B) (f : F) (given : ℕ → B) (each : (x : ℕ) (y : B) (q : F) → Called g f (x, tt) y q → (q ≡ f) × (y ≡ given x)) (ys : List B) (e : B) where
  made_from : (m i : ℕ) → IsFromFnResultFrom g f ys i m → (k : ℕ) → k < m → get_or ys (i + k) e ≡ given (i + k)
  made_from zero i made k l = absurd (omega arith)
  made_from (suc m) i made k l =
      let one = each i made.1 made.0 made.3 in
      elim (cases_eq k 0) [
        | inl z ↦ rw (z, add-zero) (made.2.1 e ∙ one.1)
        | inr z ↦
            let at : i + k ≡ (i + 1) + (k - 1) = omega arith in
            rw at (made_from m (i + 1) (subst (λ x. IsFromFnResultFrom g x ys (i + 1) m) one.0 made.4) (k - 1) (omega arith))
      ]

  pub made_at : (m : ℕ) → IsFromFnResult g f ys m → (q : ℕ) → q < m → get_or ys q e ≡ given q
  made_at m made q h =
      let here : 0 + q ≡ q = omega arith in
      rw here at (made_from m 0 made.each q h)
