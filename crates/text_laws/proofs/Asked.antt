-- What a yes says. Assumes nothing.
use Rattle.std.proofs.Common.{◌≡◌, ℕ, zero, suc, ◌<◌, Bool, true, false, cond, List, [], ◌∷◌, ◌++◌, length, get_or, set, Some, refl, arith}
use Rattle.std.proofs.lemmas.Bool.{and_parts, and_from}
use Rattle.model.specs.Questions.{good, bad, Check, at_line, each}
use Rattle.model.specs.Shapes.{every}

pub line_yes : (n : ℕ) (b : Bool) → at_line n b ≡ good → b ≡ true
line_yes n true e = refl
line_yes n false e = let z : ◌≡◌ {A = ℕ} 0 1 = cc in absurd (omega arith)

pub each_yes : (c : Check) (cs : List Check) → each (c ∷ cs) ≡ good → (c.fine ≡ true) × (each cs ≡ good)
each_yes c cs e = go c.fine refl e
  where
    go : (b : Bool) → c.fine ≡ b → cond b (each cs) (bad c.line (Some c.column)) ≡ good → (c.fine ≡ true) × (each cs ≡ good)
    go true p h = (p, h)
    go false p h = let z : ◌≡◌ {A = ℕ} 0 1 = cc in absurd (omega arith)

module _ {X : Type 0} (p : X → Bool) where
  pub every_append : (xs ys : List X) → every p xs ≡ true → every p ys ≡ true → every p (xs ++ ys) ≡ true
  every_append [] ys h k = k
  every_append (x ∷ xs) ys h k =
      let a = and_parts (p x) (every p xs) h in
      and_from (p x) (every p (xs ++ ys)) a.0 (every_append xs ys a.1 k)

  pub every_set : (xs : List X) (i : ℕ) (y : X) → every p xs ≡ true → p y ≡ true → every p (set xs i y) ≡ true
  every_set [] i y h k = refl
  every_set (x ∷ xs) zero y h k = and_from (p y) (every p xs) k (and_parts (p x) (every p xs) h).1
  every_set (x ∷ xs) (suc i) y h k =
      let a = and_parts (p x) (every p xs) h in
      and_from (p x) (every p (set xs i y)) a.0 (every_set xs i y a.1 k)

  pub every_at : (xs : List X) (i : ℕ) (d : X) → every p xs ≡ true → i < length xs → p (get_or xs i d) ≡ true
  every_at [] i d h k = absurd (omega arith)
  every_at (x ∷ xs) zero d h k = (and_parts (p x) (every p xs) h).0
  every_at (x ∷ xs) (suc i) d h k = every_at xs i d (and_parts (p x) (every p xs) h).1 (omega arith)

pub every_both : {X : Type 0} (p q r : X → Bool) → ((x : X) → p x ≡ true → q x ≡ true → r x ≡ true) → (xs : List X) → every p xs ≡ true → every q xs ≡ true → every r xs ≡ true
every_both p q r f [] h k = refl
every_both p q r f (x ∷ xs) h k =
    let a = and_parts (p x) (every p xs) h in
    let b = and_parts (q x) (every q xs) k in
    and_from (r x) (every r xs) (f x a.0 b.0) (every_both p q r f xs a.1 b.1)
