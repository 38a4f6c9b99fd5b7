-- The plain loop: iterations from 0, each in text order.
use Rattle.std.specs.Prelude.{ℕ, zero, suc, ◌-◌, cond, ◌&&◌, List, length, ℤ, pos, ◌==◌, nat_le, slice_index_or, slice_set}
use Rattle.model.specs.Loop.{Loop, Operand, literal, variable, Operation, load, store, binary, move, op, cell}
use Rattle.model.specs.Domains.{Domain}

-- What stands for a value from before iteration 0: the literal 0.
abbrev pub before_first : ℤ
before_first = pos 0

-- The memory, and the value that each operation made in each iteration.
pub record State (V : Type 0) : Type 0 where
  pub memory : List V
  pub value : ℕ → ℕ → V

-- The values with that of operation j in iteration i put in.
unfoldable pub remembered : {V : Type 0} → ℕ → ℕ → V → (ℕ → ℕ → V) → ℕ → ℕ → V
remembered j i v value q m = cond (q == j && m == i) v (value q m)

-- The memory after an operation in iteration i: a store sets its cell.
unfoldable pub written : {A V : Type 0} → Operation A → ℕ → V → List V → List V
written (load stride offset) i v memory = memory
written (store a stride offset) i v memory = slice_set memory (cell stride offset i) v
written (binary code a b) i v memory = memory
written (move a) i v memory = memory

module _ {V : Type 0} (dom : Domain V) where
  -- what is read where there is nothing
  abbrev pub nought : V
  nought = dom.of_literal (pos 0)

  -- What an operand is worth in iteration i.
  unfoldable pub operand_value : (ℕ → ℕ → V) → ℕ → Operand → V
  operand_value value i (literal z) = dom.of_literal z
  operand_value value i (variable p d) = cond (nat_le d i) (value p (i - d)) (dom.of_literal before_first)

  -- What an operation loads, computes or stores in iteration i, where its operands are worth this much.
  unfoldable pub evaluate : {A : Type 0} → (A → V) → Operation A → ℕ → List V → V
  evaluate worth (load stride offset) i memory = slice_index_or memory (cell stride offset i) nought
  evaluate worth (store a stride offset) i memory = worth a
  evaluate worth (binary code a b) i memory = dom.apply code (worth a) (worth b)
  evaluate worth (move a) i memory = worth a

  unfoldable pub result : Operation Operand → ℕ → State V → V
  result o i s = evaluate (operand_value s.value i) o i s.memory

  -- Operation o, of number j, in iteration i: it sees one state and changes another.
  unfoldable pub perform : Operation Operand → ℕ → ℕ → State V → State V → State V
  perform o j i seen s =
      record { memory = written o i (result o i seen) s.memory; value = remembered j i (result o i seen) s.value }

  -- nothing is made yet
  abbrev pub begun : List V → State V
  begun memory = record { memory = memory; value = λ _ _. nought }

  module _ (ops : Loop) where
    -- the first j operations of iteration i, each on what those before it left
    unfoldable pub iteration : ℕ → ℕ → State V → State V
    iteration i zero s = s
    iteration i (suc j) s = let now = iteration i j s in perform (op ops j) j i now now

    -- the first iterations, so many
    unfoldable pub iterations : ℕ → State V → State V
    iterations zero s = s
    iterations (suc i) s = iteration i (length ops) (iterations i s)

    -- The plain loop of so many iterations on a memory.
    abbrev pub plain : ℕ → List V → State V
    plain trips memory = iterations trips (begun memory)
