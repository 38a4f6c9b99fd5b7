-- The timed run, cycle by cycle, with every value remembered. What issues in a cycle sees the state at the start of the cycle.
use Rattle.std.proofs.Common.{ℕ, zero, suc, cond, length}
use Rattle.model.specs.Loop.{Loop, op}
use Rattle.model.specs.Schedule.{Schedule}
use Rattle.model.specs.Domains.{Domain}
use Rattle.model.specs.Plain.{State, perform}
use Rattle.model.specs.Issues.{issues, iteration_of}

module _ {V : Type 0} (dom : Domain V) (ops : Loop) (w : Schedule) (trips : ℕ) where
  -- the first j operations' part in cycle c, which started in the state s
  unfoldable pub beat : ℕ → ℕ → State V → State V
  beat c zero s = s
  beat c (suc j) s = cond (issues w trips j c) (perform dom (op ops j) j (iteration_of w j c) s (beat c j s)) (beat c j s)

  -- the first c cycles
  unfoldable pub timed : ℕ → State V → State V
  timed zero s = s
  timed (suc c) s = beat c (length ops) (timed c s)
