-- The weights are those of the edges, which join n operations at an interval of at most 256.
use Rattle.std.specs.Prelude.{◌≡◌, ℕ, ◌<◌, ◌≤◌, List}
use Rattle.std.specs.List.{AllByRecursion}
use Rattle.model.specs.Limits.{EdgeFits}
use Rattle.model.specs.declared.Edge.{Edge}
use Rattle.search_laws.specs.Weights.{weight}
use Rattle.search.specs.declared.weight_table.Weights.{Weights}
use Rattle.search.specs.Views.{weights_of}

pub record Weighed (es : List Edge) (n k : ℕ) (w : Weights) : Type 0 where
  pub fit : AllByRecursion (EdgeFits n) es
  pub small : k ≤ 256
  pub are : (p q : ℕ) → p < 32 → q < 32 → weights_of w p q ≡ weight k es p q
