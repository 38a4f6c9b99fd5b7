-- A text that is spelled byte by byte.
use Rattle.std.proofs.Common.{ℕ, ◌+◌, List, ◌++◌, Some, None, Option}

-- so many more
abbrev pub plus : ℕ → Option ℕ → Option ℕ
plus n None = None
plus n (Some k) = Some (n + k)

-- some bytes in front of a text
abbrev pub behind : List ℕ → Option (List ℕ) → Option (List ℕ)
behind xs None = None
behind xs (Some t) = Some (xs ++ t)
