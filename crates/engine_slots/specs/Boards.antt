-- The tables of the machine as the definitions have them.
use Rattle.std.specs.Prelude.{ℕ, ◌%◌, [], slice_index, slice_index_or}
use Rattle.engine_slots.specs.declared.units.Units.{Units}

-- the units of class u that are taken in cycle y
abbrev pub taken_in : Units → ℕ → ℕ → ℕ
taken_in k u y = slice_index (slice_index_or k.taken (y % 8) []) u
