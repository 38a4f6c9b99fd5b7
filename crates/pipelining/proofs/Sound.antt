-- Everything that the run relies on.
use Rattle.std.proofs.Common.{ℕ, ◌+◌, ◌<◌, ◌≤◌, ◌⊎◌, length}
use Rattle.model.specs.Loop.{Loop, op, Loads, Stores, EachOperand, Hardware, WellFormed}
use Rattle.model.specs.Schedule.{Schedule}
use Rattle.model.specs.MemoryOrder.{issue_cycle, Earlier, Met}

pub record Sound (ops : Loop) (hw : Hardware) (w : Schedule) (trips : ℕ) (cells : ℕ) : Type 0 where
  pub positive : 0 < w.interval
  pub formed : WellFormed ops hw
  pub operands : (q : ℕ) → q < length ops → EachOperand (Met hw w q) (op ops q)
  pub within : (j i x : ℕ) → j < length ops → i < trips → Loads (op ops j) i x ⊎ Stores (op ops j) i x → x < cells
  -- memory order: a store is over before a later load or store of its cell issues, a load has issued by then
  pub store_first : (p i q m x : ℕ) → p < length ops → q < length ops → i < trips → m < trips →
      Earlier p i q m → Stores (op ops p) i x → Loads (op ops q) m x ⊎ Stores (op ops q) m x →
      issue_cycle w p i + 1 ≤ issue_cycle w q m
  pub load_first : (p i q m x : ℕ) → p < length ops → q < length ops → i < trips → m < trips →
      Earlier p i q m → Loads (op ops p) i x → Stores (op ops q) m x →
      issue_cycle w p i ≤ issue_cycle w q m
