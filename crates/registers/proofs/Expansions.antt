-- The turns that a table wants.
use Rattle.std.proofs.Common.{◌≡◌, ℕ, ◌≤◌, max, map, fold, List, [], ◌∷◌, arith}
use Rattle.model.specs.declared.Life.{Life}
use Rattle.model.specs.Schemes.{want, greatest_want}
use Rattle.register_laws.proofs.Expanded.{some_want}

greatest_from : (k a : ℕ) (ls : List Life) → 1 ≤ a → fold max a (map (want k) ls) ≡ max a (greatest_want k ls)
greatest_from k a [] h = omega arith
greatest_from k a (l ∷ ls) h = let r = greatest_from k (max a (want k l)) ls (omega arith) in omega arith

pub greatest_is : (k : ℕ) (ls : List Life) → fold max 1 (map (want k) ls) ≡ greatest_want k ls
greatest_is k ls = let r = greatest_from k 1 ls (omega arith) in omega (arith, some_want k ls)
