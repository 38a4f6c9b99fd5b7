-- The plain loop as one sequence of instances: number m is operation m % n in iteration m / n.
use Rattle.std.proofs.Common.{◌≡◌, ℕ, zero, suc, ◌+◌, ◌*◌, ◌/◌, ◌%◌, ◌<◌, ◌≤◌, length, get_or, refl, ◌∙◌, inl, inr, add-zero, add-suc, suc-mul, zero-mul, arith}
use Rattle.std.proofs.lemmas.Nat.{div-mul-add, mod-mul-add}
use Rattle.std.proofs.lemmas.Bool.{cases_eq}
use Rattle.model.specs.Loop.{Loop, op, Stores}
use Rattle.model.specs.Domains.{Domain}
use Rattle.model.specs.Plain.{State, nought, result, perform, iteration, iterations}
use Rattle.pipelining.proofs.Effects.{remembered_same, remembered_other, written_length, cell_after}
use Rattle.pipelining.proofs.Order.{apart}

-- Instance m of the loop stores to cell x.
abbrev pub StoresAt : Loop → ℕ → ℕ → Type 0
StoresAt ops m x = Stores (op ops (m % length ops)) (m / length ops) x

module _ {V : Type 0} (dom : Domain V) (ops : Loop) (start : State V) where
  -- the first m instances
  unfoldable pub flat : ℕ → State V
  flat zero = start
  flat (suc m) = perform dom (op ops (m % length ops)) (m % length ops) (m / length ops) (flat m) (flat m)

  -- what instance m loads, computes or stores
  unfoldable pub made : ℕ → V
  made m = result dom (op ops (m % length ops)) (m / length ops) (flat m)

  flat_iteration : (i j : ℕ) → j ≤ length ops → iteration dom ops i j (flat (i * length ops)) ≡ flat (i * length ops + j)
  unfolding iteration flat
  flat_iteration i zero h = rw add-zero
  flat_iteration i (suc j) h =
      rw (flat_iteration i j (omega arith), add-suc, mod-mul-add i (length ops) j h, div-mul-add i (length ops) j h)

  pub flat_plain : (i : ℕ) → iterations dom ops i start ≡ flat (i * length ops)
  unfolding iterations flat
  flat_plain zero = rw zero-mul
  flat_plain (suc i) = rw (flat_plain i, suc-mul) (flat_iteration i (length ops) (omega arith))

  pub flat_length : (m : ℕ) → length (flat m).memory ≡ length start.memory
  unfolding flat perform
  flat_length zero = refl
  flat_length (suc m) = written_length _ _ _ (flat m).memory ∙ flat_length m

  -- A value stays.
  pub flat_value : (m b : ℕ) → m < b → (flat b).value (m % length ops) (m / length ops) ≡ made m
  unfolding flat perform made
  flat_value m zero h = absurd (omega arith)
  flat_value m (suc b) h =
      elim (cases_eq m b) [
        | inl e ↦ rw e (remembered_same _ _ _ _)
        | inr n ↦ remembered_other _ _ _ (flat b).value _ _ (λ p q. n (apart (length ops) m b p q)) ∙ flat_value m b (omega arith)
      ]

  -- A cell to which nothing is stored stays.
  pub flat_cell : (x m b : ℕ) → x < length start.memory → m ≤ b →
      ((s : ℕ) → m ≤ s → s < b → StoresAt ops s x → ⊥) →
      get_or (flat b).memory x (nought dom) ≡ get_or (flat m).memory x (nought dom)
  unfolding flat perform made
  flat_cell x m zero hx h no_store = let e : m ≡ 0 = omega arith in rw e
  flat_cell x m (suc b) hx h no_store =
      elim (cases_eq m (suc b)) [
        | inl e ↦ rw e
        | inr n ↦ elim (cell_after (op ops (b % length ops)) (b / length ops) (made b) (flat b).memory x (nought dom) (rw flat_length hx)) [
          | inl y ↦ absurd (no_store b (omega arith) (omega arith) y.0)
          | inr y ↦ y.1 ∙ flat_cell x m b hx (omega arith) (λ s l g. no_store s l (omega arith))
        ]
      ]

  pub flat_stored : (x m : ℕ) → x < length start.memory → StoresAt ops m x →
      get_or (flat (suc m)).memory x (nought dom) ≡ made m
  unfolding flat perform made
  flat_stored x m hx st =
      elim (cell_after (op ops (m % length ops)) (m / length ops) (made m) (flat m).memory x (nought dom) (rw flat_length hx)) [
        | inl y ↦ y.1
        | inr n ↦ absurd (n.0 st)
      ]
