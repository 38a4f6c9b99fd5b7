-- Lists of registers by the cycle, modulo 8, in which their writes are due.
use Rattle.std.specs.Prelude.{◌≡◌, ℕ, ◌+◌, ◌%◌, ◌<◌, ◌≤◌, ◌⊎◌, List, length, Contains}
use Rattle.std.specs.List.{All}
use Rattle.model.specs.declared.Status.{Status}
use Rattle.model.specs.declared.Status.TheVariants.{Waits}
use Rattle.model.specs.Driving.{Waiting}

-- Register r is in list x, or the list is full, with 32, and stands for all registers.
abbrev pub Listed : (ℕ → List ℕ) → ℕ → ℕ → Type 0
Listed lists x r = (32 ≤ length (lists x)) ⊎ Contains (lists x) r

-- Before cycle c each register that awaits a write is one of the file, and a write that is still to land is due within 8 cycles and listed.
pub record Awaited (c : ℕ) (due : ℕ) (lists : ℕ → List ℕ) (file r : ℕ) : Type 0 where
  pub within : r < file
  pub soon : c ≤ due → due < c + 8
  pub listed : c ≤ due → Listed lists (due % 8) r

abbrev pub Pending : {V : Type 0} → ℕ → ℕ → (ℕ → Status) → (ℕ → Waiting V) → (ℕ → List ℕ) → Type 0
Pending file c status waiting lists = (r : ℕ) → status r ≡ Waits → Awaited c (waiting r).due lists file r

-- Each register that is listed is one of the first so many.
abbrev pub Registers : (ℕ → List ℕ) → ℕ → Type 0
Registers lists bound = (x : ℕ) → All (λ r. r < bound) (lists x)

-- the lists after r was put into one
pub record Pushed (due r : ℕ) (lists lists' : ℕ → List ℕ) : Type 0 where
  pub in_list : Listed lists' (due % 8) r
  pub others : (x q : ℕ) → Listed lists x q → Listed lists' x q
  pub bounded : (bound : ℕ) → r < bound → Registers lists bound → Registers lists' bound
