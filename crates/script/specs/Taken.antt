-- A word, if there was one, in front of others.
use Rattle.std.specs.Prelude.{ℕ, List, ◌∷◌, Some, None, Option}
use Rattle.std.specs.Borrow.{Bor}

abbrev pub taken : Option (Bor (List ℕ)) → List (List ℕ) → List (List ℕ)
taken None rest = rest
taken (Some w) rest = w.now ∷ rest
