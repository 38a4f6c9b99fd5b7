-- A path as the list of its edges' numbers.
use Rattle.std.specs.Prelude.{ℕ, List}
use Rattle.few.specs.Held.{held}
use Rattle.bounds.specs.declared.path.Path.{Path}

abbrev pub numbers : Path → List ℕ
numbers p = held p.edges
