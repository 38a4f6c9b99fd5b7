-- Each question answered no, on rows of one or two slots: what the fault tells, and what stands then.
use Rattle.std.specs.Prelude.{◌≡◌, ℕ, zero, suc, List, [], ◌∷◌, pos}
use Rattle.model.specs.Loop.{Operation, load, store, move}
use Rattle.model.specs.Domains.{words}
use Rattle.model.specs.Issues.{Source, constant, register, Slot, Form}
use Rattle.model.specs.Driving.{Waiting, Outcome, finished, stopped, Machine, fresh, drive}
use Rattle.model.specs.declared.Question.{Question}
use Rattle.model.specs.declared.Question.TheVariants.{UnitFree, OperandsLanded, IterationRuns, CellInMemory, ResultFree}

-- one cell with a 3, value entries that hold 9 and waiting entries that hold 8, due in cycle 1
abbrev pub at_first : Machine ℕ
at_first = fresh (3 ∷ []) (λ _. 9) (λ _. record { due = 1; value = 8 })

-- a slot in stage s, of class u, with its result to register r, of latency 1
abbrev pub slot : ℕ → ℕ → ℕ → Operation Source → Slot
slot s u r o = record { operation = o; stage = s; target = r; latency = 1; class = u; busy = 1 }

abbrev pub five : Operation Source
five = move (constant (pos 5))

-- one row after the other, and then empty ones
abbrev pub rows : List (List Slot) → Form
rows [] c = []
rows (row ∷ rest) zero = row
rows (row ∷ rest) (suc c) = rows rest c

-- two cycles at interval 1, two trips, one unit of each class
abbrev pub two_cycles : List (List Slot) → Outcome ℕ
two_cycles code = drive words (λ _. 1) 1 2 (rows code) 2 at_first

-- what a run tells: how it ended, the memory, and the value and the waiting entry of register 0
pub data Told : Type 0 where
  done : List ℕ → ℕ → Waiting ℕ → Told
  fault : Question → ℕ → ℕ → List ℕ → ℕ → Waiting ℕ → Told

abbrev pub told : Outcome ℕ → Told
told (finished m) = done m.memory (m.values 0) (m.waiting 0)
told (stopped f m) = fault f.question f.cycle f.slot m.memory (m.values 0) (m.waiting 0)

abbrev pub old_entry : Waiting ℕ
old_entry = record { due = 1; value = 8 }

pub record WorkedFaults : Type 0 where
  -- two slots of one class: the second finds its unit taken
  pub no_unit : told (two_cycles ((slot 0 0 0 five ∷ slot 0 0 1 five ∷ []) ∷ [])) ≡ fault UnitFree 0 1 (3 ∷ []) 9 old_entry
  -- a register that never landed, whatever its entries hold
  pub never_landed : told (two_cycles ((slot 0 0 1 (move (register 0)) ∷ []) ∷ [])) ≡ fault OperandsLanded 0 0 (3 ∷ []) 9 old_entry
  -- a register to which the slot before it issues
  pub still_awaited : told (two_cycles ((slot 0 0 0 five ∷ slot 0 1 1 (move (register 0)) ∷ []) ∷ [])) ≡ fault OperandsLanded 0 1 (3 ∷ []) 9 old_entry
  -- stage 1 in pass 0
  pub too_early : told (two_cycles ((slot 1 0 0 five ∷ []) ∷ [])) ≡ fault IterationRuns 0 0 (3 ∷ []) 9 old_entry
  -- cell 1 of one cell; the store of the slot before it is not done
  pub outside : told (two_cycles ((slot 0 0 0 (store (constant (pos 4)) 1 0) ∷ slot 0 1 0 (load 1 1) ∷ []) ∷ [])) ≡ fault CellInMemory 0 1 (3 ∷ []) 9 old_entry
  -- two slots with one result register
  pub two_results : told (two_cycles ((slot 0 0 0 five ∷ slot 0 1 0 five ∷ []) ∷ [])) ≡ fault ResultFree 0 1 (3 ∷ []) 9 old_entry
  -- the first no of a slot counts: register 1 never landed, and stage 1 has not begun
  pub first_no : told (two_cycles ((slot 1 0 0 (move (register 1)) ∷ []) ∷ [])) ≡ fault OperandsLanded 0 0 (3 ∷ []) 9 old_entry
  -- a fault in cycle 1: what cycle 0 did stands, and the write due in cycle 1 has landed
  pub later : told (two_cycles ((slot 0 0 0 five ∷ slot 0 1 0 (store (constant (pos 4)) 1 0) ∷ []) ∷ (slot 0 1 0 (load 1 1) ∷ []) ∷ [])) ≡
      fault CellInMemory 1 0 (4 ∷ []) 5 (record { due = 1; value = 5 })
  -- no fault: a value lands in cycle 1 and is read in it; a load sees memory as it was before the stores of its row
  pub lands : told (two_cycles ((slot 0 0 0 five ∷ []) ∷ (slot 0 0 1 (store (register 0) 0 0) ∷ []) ∷ [])) ≡ done (5 ∷ []) 5 (record { due = 1; value = 5 })
  pub loads_first : told (two_cycles ((slot 0 0 0 (store (constant (pos 4)) 0 0) ∷ slot 0 1 0 (load 0 0) ∷ []) ∷ [])) ≡ done (4 ∷ []) 3 (record { due = 1; value = 3 })
  -- a write that is due behind the last cycle does not land
  pub too_late : told (two_cycles ([] ∷ (slot 0 0 0 five ∷ []) ∷ [])) ≡ done (3 ∷ []) 9 (record { due = 2; value = 5 })
