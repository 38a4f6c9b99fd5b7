-- What one operation does to a state.
use Rattle.std.proofs.Common.{◌≡◌, ℕ, ◌-◌, ◌<◌, ◌≤◌, leb, ◌⊎◌, List, length, get_or, ℤ, sym, refl, ap₂, inl, inr}
use Rattle.std.proofs.lemmas.List.{length-set, get_or-set_same, get_or-set_other}
use Rattle.std.proofs.lemmas.Bool.{eq-eqb, ne_eqb, cases_eq, cases_Bool, leb-true}
use Rattle.model.specs.Loop.{Operand, literal, variable, Operation, load, store, binary, move, cell, Loads, Stores, EachOperand}
use Rattle.model.specs.Domains.{Domain}
use Rattle.model.specs.Plain.{State, remembered, written, nought, operand_value, evaluate, result}

pub remembered_same : {V : Type 0} (j i : ℕ) (v : V) (value : ℕ → ℕ → V) → remembered j i v value j i ≡ v
unfolding remembered
remembered_same j i v value = rw (eq-eqb j j refl, eq-eqb i i refl)

pub remembered_other : {V : Type 0} (j i : ℕ) (v : V) (value : ℕ → ℕ → V) (q m : ℕ) →
    (q ≡ j → m ≡ i → ⊥) → remembered j i v value q m ≡ value q m
unfolding remembered
remembered_other j i v value q m apart =
    elim (cases_eq q j) [
      | inl e ↦ rw (eq-eqb q j e, ne_eqb m i (apart e))
      | inr n ↦ rw (ne_eqb q j n)
    ]

pub written_length : {A V : Type 0} (o : Operation A) (i : ℕ) (v : V) (memory : List V) →
    length (written o i v memory) ≡ length memory
unfolding written
written_length (load stride offset) i v memory = refl
written_length (store a stride offset) i v memory = length-set memory (cell stride offset i) v
written_length (binary code a b) i v memory = refl
written_length (move a) i v memory = refl

-- A cell after an operation: it was stored to, or it is as it was.
abbrev pub CellAfter : {A V : Type 0} → Operation A → ℕ → V → List V → ℕ → V → Type 0
CellAfter o i v memory x d =
    (Stores o i x × (get_or (written o i v memory) x d ≡ v)) ⊎
    ((Stores o i x → ⊥) × (get_or (written o i v memory) x d ≡ get_or memory x d))

pub cell_after : {A V : Type 0} (o : Operation A) (i : ℕ) (v : V) (memory : List V) (x : ℕ) (d : V) →
    x < length memory → CellAfter o i v memory x d
unfolding written
cell_after (load stride offset) i v memory x d h = inr ((λ e. e), refl)
cell_after (store a stride offset) i v memory x d h =
    elim (cases_eq (cell stride offset i) x) [
      | inl e ↦ inl (e, rw e (get_or-set_same memory x v d h))
      | inr n ↦ inr (n, get_or-set_other memory (cell stride offset i) x v d (λ e. n (sym e)))
    ]
cell_after (binary code a b) i v memory x d h = inr ((λ e. e), refl)
cell_after (move a) i v memory x d h = inr ((λ e. e), refl)

module _ {V : Type 0} (dom : Domain V) where
  -- An operation has one result in two states that agree on what it reads.
  pub result_same : (o : Operation Operand) (i : ℕ) (s t : State V) →
      EachOperand (λ a. operand_value dom s.value i a ≡ operand_value dom t.value i a) o →
      ((x : ℕ) → Loads o i x → get_or s.memory x (nought dom) ≡ get_or t.memory x (nought dom)) →
      result dom o i s ≡ result dom o i t
  unfolding result evaluate
  result_same (load stride offset) i s t same_operands same_cells = same_cells (cell stride offset i) refl
  result_same (store a stride offset) i s t same_operands same_cells = same_operands
  result_same (binary code a b) i s t same_operands same_cells =
      ap₂ (dom.apply code) same_operands.0 same_operands.1
  result_same (move a) i s t same_operands same_cells = same_operands

  pub literal_same : (i : ℕ) (f g : ℕ → ℕ → V) (z : ℤ) → operand_value dom f i (literal z) ≡ operand_value dom g i (literal z)
  unfolding operand_value
  literal_same i f g z = refl

  pub operand_same : (i : ℕ) (f g : ℕ → ℕ → V) (p d : ℕ) →
      (d ≤ i → f p (i - d) ≡ g p (i - d)) →
      operand_value dom f i (variable p d) ≡ operand_value dom g i (variable p d)
  unfolding operand_value
  operand_same i f g p d same =
      elim (cases_Bool (leb d i)) [ inl e ↦ rw e (same (leb-true d i e)) | inr e ↦ rw e ]

-- Where P holds of each operand and gives Q, so does Q.
pub each_operand : (P Q : Operand → Type 0) → ((a : Operand) → P a → Q a) → (o : Operation Operand) → EachOperand P o → EachOperand Q o
each_operand P Q f (load stride offset) h = tt
each_operand P Q f (store a stride offset) h = f a h
each_operand P Q f (binary code a b) h = (f a h.0, f b h.1)
each_operand P Q f (move a) h = f a h

pub loads_only : (o : Operation Operand) (i x : ℕ) → Loads o i x → Stores o i x → ⊥
loads_only (load stride offset) i x l s = s
loads_only (store a stride offset) i x l s = l
loads_only (binary code a b) i x l s = s
loads_only (move a) i x l s = s

pub both_operands : (P Q R : Operand → Type 0) → ((a : Operand) → P a → Q a → R a) → (o : Operation Operand) →
    EachOperand P o → EachOperand Q o → EachOperand R o
both_operands P Q R f (load stride offset) h k = tt
both_operands P Q R f (store a stride offset) h k = f a h k
both_operands P Q R f (binary code a b) h k = (f a h.0 k.0, f b h.1 k.1)
both_operands P Q R f (move a) h k = f a h k
