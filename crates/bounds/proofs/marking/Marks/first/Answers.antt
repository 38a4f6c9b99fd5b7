use Rattle.std.proofs.Common.{◌≡◌, ℕ, zero, suc, ◌+◌, cond, not, ltb, List, [], ◌∷◌, Some, None, is_some, map, position, sym, refl, ap, ap₂, ◌∙◌, arith, rules, tests}
use Rattle.std.specs.List.{position_or_len}
use Rattle.std.proofs.lemmas.Bool.{lt-ltb}
use Rattle.std.proofs.lemmas.List.{length-map}
use Rattle.std.proofs.lemmas.Iterator.{YieldsList-from_slice}
use Rattle.std.proofs.lemmas.Iterator.Search.{position_from_yields_List}
use Rattle.bounds.specs.Kept.{number_of}
use Rattle.bounds.proofs.marking.Marks.first.Goals as goal

-- the first number that is kept
first_kept : (xs : List ℕ) → position_or_len is_some (map number_of xs) ≡ position_or_len (λ m. ltb 0 m) xs
first_kept [] = refl
first_kept (zero ∷ xs) = ap (λ n. 1 + n) (first_kept xs)
first_kept (suc n ∷ xs) = ap (λ b. cond (not b) (1 + position_or_len (λ m. ltb 0 m) xs) 0) (sym (lt-ltb 0 (suc n) (omega arith)))

pub returns : goal.returns
returns c =
    let kept = c.self.inside.kept in
    let is : c.position.result ≡ position (λ m. ltb 0 m) kept =
    position_from_yields_List (λ m. ltb 0 m) _ _ c.position.result c.position.ensures.ran (YieldsList-from_slice kept cc) (λ x b q k. search (rules, tests)) in
    is ∙ ap₂ (λ a n. cond (ltb a n) (Some a) None) (sym (first_kept kept)) (sym (length-map kept number_of)) ∙ ap (position is_some) c.self.view_is
