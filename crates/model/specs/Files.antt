-- What a run leaves in the two files: of each register the last instance that landed in it, and the last that was issued to it.
use Rattle.std.specs.Prelude.{ℕ, zero, suc, ◌+◌, ◌-◌, Bool, cond, ◌&&◌, length, ◌==◌, nat_le}
use Rattle.model.specs.Loop.{Loop, op, makes, Hardware}
use Rattle.model.specs.Schedule.{Schedule}
use Rattle.model.specs.MemoryOrder.{issue_cycle}
use Rattle.model.specs.Issues.{issues, iteration_of}
use Rattle.model.specs.Driving.{Waiting}

-- What operation j makes in iteration i; or nothing.
pub data Instance : Type 0 where
  nothing : Instance
  made : ℕ → ℕ → Instance

module _ (ops : Loop) (w : Schedule) (trips : ℕ) (home : ℕ → ℕ → ℕ) (delay : ℕ → ℕ) where
  -- In cycle c, so many cycles after its issue, a value of operation j reaches register r.
  abbrev pub reaches : ℕ → ℕ → ℕ → Bool
  reaches r c j =
      nat_le (delay j) c && (issues w trips j (c - delay j) && (makes (op ops j) && home j (iteration_of w j (c - delay j)) == r))

  -- in cycle c, by the first j operations, or else the one before
  unfoldable pub latest_in : ℕ → ℕ → ℕ → Instance → Instance
  latest_in r c zero before = before
  latest_in r c (suc j) before = cond (reaches r c j) (made j (iteration_of w j (c - delay j))) (latest_in r c j before)

  -- in the first cycles, so many
  unfoldable pub latest : ℕ → ℕ → Instance
  latest r zero = nothing
  latest r (suc c) = latest_in r c (length ops) (latest r c)

module _ (ops : Loop) (hw : Hardware) (w : Schedule) (trips : ℕ) (home : ℕ → ℕ → ℕ) where
  -- The last instance that was issued to register r in the first cycles, so many; and the last that landed in it.
  abbrev pub last_issued : ℕ → ℕ → Instance
  last_issued r c = latest ops w trips home (λ _. 0) r c

  abbrev pub last_landed : ℕ → ℕ → Instance
  last_landed r c = latest ops w trips home hw.latency r c

module _ {V : Type 0} (hw : Hardware) (w : Schedule) (value : ℕ → ℕ → V) where
  -- An entry for an instance, or what was there.
  abbrev pub value_entry : V → Instance → V
  value_entry old nothing = old
  value_entry old (made j i) = value j i

  abbrev pub waiting_entry : Waiting V → Instance → Waiting V
  waiting_entry old nothing = old
  waiting_entry old (made j i) = record { due = issue_cycle w j i + hw.latency j; value = value j i }
