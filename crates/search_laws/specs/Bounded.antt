-- On the way to the laws: bounds on times, and what the laws of the search ask of edges and operations.
use Rattle.std.specs.Prelude.{◌≡◌, ℕ, ◌+◌, ◌*◌, ◌<◌, ◌≤◌, cond, List, Some, None, Option, ◌==◌}
use Rattle.std.specs.List.{AllByRecursion}
use Rattle.model.specs.Loop.{Hardware, total}
use Rattle.model.specs.Edges.{EdgeMet}
use Rattle.model.specs.Schedule.{uses}
use Rattle.model.specs.Search.{Outcome, found, failed}
use Rattle.model.specs.declared.Edge.{Edge}

-- a number below b, if any
abbrev pub Under : ℕ → Option ℕ → Type 0
Under b None = Unit {0}
Under b (Some t) = t < b

abbrev pub Short : List Edge → Type 0
Short es = AllByRecursion (λ e. e.delay ≤ 8) es

-- No operation is busier than the units of its class allow at interval k.
abbrev pub Roomy : Hardware → ℕ → ℕ → Type 0
Roomy hw n k = (j : ℕ) → j < n → hw.busy j ≤ k * hw.units (hw.class j)

-- What is found meets every edge and fits every row, each step took the times up by at most k + 8, and no more steps were taken than there are.
abbrev pub Sound : List Edge → Hardware → ℕ → ℕ → Outcome → Type 0
Sound es hw n k (found time taken) =
    AllByRecursion (EdgeMet time k) es ×
    ((u r : ℕ) → r < k → total (λ j. cond (hw.class j == u) (uses k (time j) (hw.busy j) r) 0) n ≤ hw.units u) ×
    ((j : ℕ) → j < n → time j < taken * (k + 8)) × (taken ≤ 6 * n)
Sound es hw n k (failed taken) = taken ≡ 6 * n
