-- The weights as a function, 0 where there is no edge.
use Rattle.std.specs.Prelude.{ℕ, [], Some, None, Option, slice_index, slice_index_or}
use Rattle.search.specs.declared.weight.Weight.{Weight}
use Rattle.search.specs.declared.weight_table.Weights.{Weights}

abbrev pub weights_of : Weights → ℕ → ℕ → ℕ
weights_of w p q = slice_index (slice_index_or w.between p []) q

abbrev pub weight_seen : Option Weight → ℕ
weight_seen None = 0
weight_seen (Some w) = w.raised
