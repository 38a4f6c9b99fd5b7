-- The lists of due writes as the definitions have them.
use Rattle.std.specs.Prelude.{ℕ, List, [], take, slice_index, slice_index_or}
use Rattle.engine_writes.specs.declared.dues.Dues.{Dues}

-- The registers in list x. A count of more than its places is of a full list.
abbrev pub lists_of : Dues → ℕ → List ℕ
lists_of d x = take (slice_index d.counts x) (slice_index_or d.places x [])
