-- What one cycle does to the state that it starts in.
use Rattle.std.proofs.Common.{◌≡◌, ℕ, zero, suc, ◌<◌, true, ◌⊎◌, length, get_or, refl, ◌∙◌, inl, inr, arith}
use Rattle.std.proofs.lemmas.Bool.{cases_eq, cases_Bool, both_ways}
use Rattle.model.specs.Loop.{Loop, op, Stores}
use Rattle.model.specs.Schedule.{Schedule}
use Rattle.model.specs.Domains.{Domain}
use Rattle.model.specs.Plain.{State, nought, result, perform}
use Rattle.model.specs.Issues.{issues, iteration_of}
use Rattle.pipelining.proofs.Timed.{beat, timed}
use Rattle.pipelining.proofs.Effects.{remembered_same, remembered_other, written_length, cell_after}

module _ {V : Type 0} (dom : Domain V) (ops : Loop) (w : Schedule) (trips : ℕ) (c : ℕ) (s : State V) where
  pub cycle_length : (j : ℕ) → length (beat dom ops w trips c j s).memory ≡ length s.memory
  unfolding beat perform
  cycle_length zero = refl
  cycle_length (suc j) =
      elim (cases_Bool (issues w trips j c)) [
        | inl e ↦ rw e (written_length (op ops j) _ _ _ ∙ cycle_length j)
        | inr e ↦ rw e (cycle_length j)
      ]

  pub cycle_kept : (j q m : ℕ) → (issues w trips q c ≡ true → m ≡ iteration_of w q c → ⊥) →
      (beat dom ops w trips c j s).value q m ≡ s.value q m
  unfolding beat perform
  cycle_kept zero q m other = refl
  cycle_kept (suc j) q m other =
      elim (cases_Bool (issues w trips j c)) [
        | inl e ↦ rw e (remembered_other j (iteration_of w j c) _ _ q m (λ p r. other (rw p e) (rw p r)) ∙ cycle_kept j q m other)
        | inr e ↦ rw e (cycle_kept j q m other)
      ]

  pub cycle_value : (j q : ℕ) → q < j → issues w trips q c ≡ true →
      (beat dom ops w trips c j s).value q (iteration_of w q c) ≡ result dom (op ops q) (iteration_of w q c) s
  unfolding beat perform
  cycle_value zero q h e = absurd (omega arith)
  cycle_value (suc j) q h e =
      elim (cases_eq q j) [
        | inl p ↦ rw p (rw (rw p at e) (remembered_same j (iteration_of w j c) _ _))
        | inr n ↦ elim (cases_Bool (issues w trips j c)) [
          | inl y ↦ rw y (remembered_other j (iteration_of w j c) _ _ q _ (λ p r. n p) ∙ cycle_value j q (omega arith) e)
          | inr y ↦ rw y (cycle_value j q (omega arith) e)
        ]
      ]

  -- A cell after the first j operations: one of them stored to it, or it is as it was.
  abbrev pub CellThen : ℕ → ℕ → Type 0
  CellThen x j =
      ((q : ℕ) × (q < j) × (issues w trips q c ≡ true) × Stores (op ops q) (iteration_of w q c) x ×
      (get_or (beat dom ops w trips c j s).memory x (nought dom) ≡ result dom (op ops q) (iteration_of w q c) s)) ⊎
      (((q : ℕ) → q < j → issues w trips q c ≡ true → Stores (op ops q) (iteration_of w q c) x → ⊥) ×
      (get_or (beat dom ops w trips c j s).memory x (nought dom) ≡ get_or s.memory x (nought dom)))

  pub cycle_cell : (x j : ℕ) → x < length s.memory → CellThen x j
  unfolding beat perform
  cycle_cell x zero hx = inr ((λ q h. absurd (omega arith)), refl)
  cycle_cell x (suc j) hx =
      elim (cases_Bool (issues w trips j c)) [
        | inl e ↦ rw e (elim (cell_after (op ops j) (iteration_of w j c) (result dom (op ops j) (iteration_of w j c) s)
            (beat dom ops w trips c j s).memory x (nought dom) (rw cycle_length hx)) [
              | inl y ↦ inl (j, omega arith, e, y.0, y.1)
              | inr y ↦ elim (cycle_cell x j hx) [
                | inl z ↦ inl (z.0, omega arith, z.2, z.3, y.1 ∙ z.4)
                | inr z ↦ inr (
                  (λ q h g st. elim (cases_eq q j) [ inl p ↦ y.0 (rw p at st) | inr n ↦ z.0 q (omega arith) g st ]),
                  y.1 ∙ z.1,
                )
              ]
            ])
        | inr e ↦ rw e (elim (cycle_cell x j hx) [
          | inl z ↦ inl (z.0, omega arith, z.2, z.3, z.4)
          | inr z ↦ inr (
            (λ q h g st. elim (cases_eq q j) [ inl p ↦ absurd (both_ways _ e (rw p at g)) | inr n ↦ z.0 q (omega arith) g st ]),
            z.1,
          )
        ])
      ]

pub timed_length : {V : Type 0} (dom : Domain V) (ops : Loop) (w : Schedule) (trips : ℕ) (start : State V) (c : ℕ) →
    length (timed dom ops w trips c start).memory ≡ length start.memory
unfolding timed
timed_length dom ops w trips start zero = refl
timed_length dom ops w trips start (suc c) = cycle_length dom ops w trips c _ (length ops) ∙ timed_length dom ops w trips start c
