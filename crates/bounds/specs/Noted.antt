-- What is noted of each operation, if anything is.
use Rattle.std.specs.Prelude.{ℕ, List, None, Option, slice_index_or}

abbrev pub noted : List (Option ℕ) → ℕ → Option ℕ
noted notes u = slice_index_or notes u None
