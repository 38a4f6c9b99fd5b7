-- The marks of a round as they are kept: the number of an edge + 1, or 0 for none.
use Rattle.std.specs.Prelude.{◌≡◌, ℕ, zero, suc, List, [], ◌∷◌, Some, None, Option, map, refl}
use Rattle.std.proofs.Common.{ap}
use Rattle.bounds.specs.declared.marking.Marks.TheInside.{Inside}

abbrev pub number_of : ℕ → Option ℕ
number_of zero = None
number_of (suc n) = Some n

abbrev pub kept_for : Option ℕ → ℕ
kept_for None = 0
kept_for (Some n) = suc n

abbrev pub numbers_in : Inside → List (Option ℕ)
numbers_in m = map number_of m.kept

abbrev pub kept_as : List (Option ℕ) → Inside
kept_as marks = record { kept = map kept_for marks }

same_again : (xs : List ℕ) → map kept_for (map number_of xs) ≡ xs
same_again [] = refl
same_again (zero ∷ xs) = ap (λ ys. 0 ∷ ys) (same_again xs)
same_again (suc n ∷ xs) = ap (λ ys. suc n ∷ ys) (same_again xs)

pub kept_again : (m : Inside) → kept_as (numbers_in m) ≡ m
kept_again m = ap (λ (xs : List ℕ). let i : Inside = record { kept = xs } in i) (same_again m.kept)
