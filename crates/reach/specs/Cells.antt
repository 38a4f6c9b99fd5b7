-- Whether an operation's cell is in memory.
use Rattle.std.specs.Prelude.{ℕ, Bool, not, ◌||◌, nat_lt}
use Rattle.model.specs.Loop.{Operation, in_memory, stride_of, offset_of, cell}

-- The cell that it touches in iteration i, if it touches one, is one of the first `cells`.
abbrev pub cell_held : {A : Type 0} → Operation A → ℕ → ℕ → Bool
cell_held o i cells = not (in_memory o) || nat_lt (cell (stride_of o) (offset_of o) i) cells
