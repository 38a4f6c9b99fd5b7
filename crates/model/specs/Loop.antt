-- A loop body: its operations, and what the machine makes of each.
use Rattle.std.specs.Prelude.{◌≡◌, ℕ, zero, suc, ◌+◌, ◌*◌, ◌<◌, ◌≤◌, Bool, true, false, List, [], ◌∷◌, length, ℤ, pos, slice_index_or}
use Rattle.model.specs.declared.Operator.{Operator}

-- A literal, or the value that an operation, by its number, made so many iterations earlier.
pub data Operand : Type 0 where
  literal : ℤ → Operand
  variable : ℕ → ℕ → Operand

-- An operation over operands of a kind A. A load and a store end in stride and offset.
pub data Operation (A : Type 0) : Type 0 where
  load : ℕ → ℕ → Operation A
  store : A → ℕ → ℕ → Operation A
  binary : Operator → A → A → Operation A
  move : A → Operation A

-- The operations in text order, numbered from 0.
abbrev pub Loop : Type 0
Loop = List (Operation Operand)

unfoldable pub op : Loop → ℕ → Operation Operand
op ops j = slice_index_or ops j (move (literal (pos 0)))

-- In iteration i a load or a store touches this cell.
abbrev pub cell : ℕ → ℕ → ℕ → ℕ
cell stride offset i = stride * i + offset

-- Operation o in iteration i loads from cell x; stores to cell x.
abbrev pub Loads : {A : Type 0} → Operation A → ℕ → ℕ → Type 0
Loads (load stride offset) i x = cell stride offset i ≡ x
Loads (store a stride offset) i x = ⊥
Loads (binary code a b) i x = ⊥
Loads (move a) i x = ⊥

abbrev pub Stores : {A : Type 0} → Operation A → ℕ → ℕ → Type 0
Stores (load stride offset) i x = ⊥
Stores (store a stride offset) i x = cell stride offset i ≡ x
Stores (binary code a b) i x = ⊥
Stores (move a) i x = ⊥

abbrev pub EachOperand : {A : Type 0} → (A → Type 0) → Operation A → Type 0
EachOperand P (load stride offset) = Unit {0}
EachOperand P (store a stride offset) = P a
EachOperand P (binary code a b) = P a × P b
EachOperand P (move a) = P a

-- The operands in text order.
abbrev pub operands : {A : Type 0} → Operation A → List A
operands (load stride offset) = []
operands (store a stride offset) = a ∷ []
operands (binary code a b) = a ∷ b ∷ []
operands (move a) = a ∷ []

-- The same operation over other operands.
abbrev pub on_operands : {A B : Type 0} → (A → B) → Operation A → Operation B
on_operands f (load stride offset) = load stride offset
on_operands f (store a stride offset) = store (f a) stride offset
on_operands f (binary code a b) = binary code (f a) (f b)
on_operands f (move a) = move (f a)

-- An operation other than a store makes a value: it defines a variable.
abbrev pub makes : {A : Type 0} → Operation A → Bool
makes (load stride offset) = true
makes (store a stride offset) = false
makes (binary code a b) = true
makes (move a) = true

-- Loads and stores touch memory, with a stride and an offset.
abbrev pub in_memory : {A : Type 0} → Operation A → Bool
in_memory (load stride offset) = true
in_memory (store a stride offset) = true
in_memory (binary code a b) = false
in_memory (move a) = false

abbrev pub stride_of : {A : Type 0} → Operation A → ℕ
stride_of (load stride offset) = stride
stride_of (store a stride offset) = stride
stride_of (binary code a b) = 0
stride_of (move a) = 0

abbrev pub offset_of : {A : Type 0} → Operation A → ℕ
offset_of (load stride offset) = offset
offset_of (store a stride offset) = offset
offset_of (binary code a b) = 0
offset_of (move a) = 0

-- The sum of f over the numbers below n.
abbrev pub total : (ℕ → ℕ) → ℕ → ℕ
total f zero = 0
total f (suc n) = total f n + f n

-- Of each operation its latency, the number of its unit class and how long it keeps a unit busy; of each class its units.
pub record Hardware : Type 0 where
  pub latency : ℕ → ℕ
  pub class : ℕ → ℕ
  pub busy : ℕ → ℕ
  pub units : ℕ → ℕ

-- An operand of operation q names a variable of the loop, at most seven iterations back; this iteration's only if it is defined above.
abbrev pub Named : Loop → ℕ → Operand → Type 0
Named ops q (literal z) = Unit {0}
Named ops q (variable p d) = (p < length ops) × (makes (op ops p) ≡ true) × (d ≡ 0 → p < q) × (d ≤ 7)

-- A loop on a machine, as the two texts can give them.
pub record WellFormed (ops : Loop) (hw : Hardware) : Type 0 where
  pub some : 0 < length ops
  pub few : length ops ≤ 32
  pub named : (q : ℕ) → q < length ops → EachOperand (Named ops q) (op ops q)
  pub latencies : (j : ℕ) → j < length ops → (1 ≤ hw.latency j) × (hw.latency j ≤ 8)
  pub busies : (j : ℕ) → j < length ops → (1 ≤ hw.busy j) × (hw.busy j ≤ hw.latency j)
  pub units : (j : ℕ) → j < length ops → (1 ≤ hw.units (hw.class j)) × (hw.units (hw.class j) ≤ 8)
