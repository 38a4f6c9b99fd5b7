-- How many edges a loop can have.
use Rattle.std.specs.Prelude.{◌≡◌, ◌≤◌, true, length}
use Rattle.model.specs.Loop.{Loop, Hardware}
use Rattle.model.specs.Edges.{edges}
use Rattle.model.specs.Soundness.{sound_loop}

-- 32 operations with two operands each, and a pair of edges between any two of 16 loads and stores.
abbrev pub EdgesAreFew : Type 0
EdgesAreFew = (ops : Loop) (hw : Hardware) → sound_loop ops ≡ true → length (edges ops hw) ≤ 304
