-- What holds of each number below another, of each number of a range, and of each item of a list.
use Rattle.std.proofs.Common.{◌≡◌, ℕ, zero, suc, ◌+◌, ◌<◌, Bool, true, false, ◌&&◌, List, [], ◌∷◌, length, get_or, sym, refl, ap, ◌∙◌, inl, inr, add-one, arith}
use Rattle.std.proofs.lemmas.Bool.{cases_eq, and_from, and_left, and_right, and_parts}
use Rattle.std.specs.List.{list_all, range_with_len}
use Rattle.model.specs.Driving.{all_below}

pub all_below_more : (p : ℕ → Bool) (n : ℕ) → all_below p n ≡ true → p n ≡ true → all_below p (n + 1) ≡ true
all_below_more p n below here = rw add-one (and_from _ _ below here)

pub all_below_no : (p : ℕ → Bool) (n b : ℕ) → b < n → p b ≡ false → false ≡ all_below p n
all_below_no p zero b h no_here = absurd (omega arith)
all_below_no p (suc n) b h no_here = elim (cases_eq b n) [
  | inl e ↦ sym (and_right _ _ (rw e at no_here))
  | inr z ↦ sym (and_left _ _ (sym (all_below_no p n b (omega arith) no_here)))
]

pub all_below_each : (p : ℕ → Bool) (n b : ℕ) → all_below p n ≡ true → b < n → p b ≡ true
all_below_each p zero b all h = absurd (omega arith)
all_below_each p (suc n) b all h = elim (cases_eq b n) [
  | inl e ↦ rw e (and_parts _ _ all).1
  | inr z ↦ all_below_each p n b (and_parts _ _ all).0 (omega arith)
]

and_assoc : (a b c : Bool) → ((a && b) && c) ≡ (a && (b && c))
and_assoc true b c = refl
and_assoc false b c = refl

and_true : (a : Bool) → (true && a) ≡ (a && true)
and_true true = refl
and_true false = refl

-- the first number, and those behind it
all_below_first : (p : ℕ → Bool) (n : ℕ) → all_below p (suc n) ≡ (p 0 && all_below (λ b. p (suc b)) n)
all_below_first p zero = and_true (p 0)
all_below_first p (suc n) = ap (λ a. a && p (suc n)) (all_below_first p n) ∙ and_assoc (p 0) (all_below (λ b. p (suc b)) n) (p (suc n))

same_below : (p q : ℕ → Bool) (n : ℕ) → ((b : ℕ) → p b ≡ q b) → all_below p n ≡ all_below q n
same_below p q zero same = refl
same_below p q (suc n) same = rw (same_below p q n same, same n) refl

pub all_in_range : (p : ℕ → Bool) (from n : ℕ) → list_all p (range_with_len from n) ≡ all_below (λ b. p (from + b)) n
all_in_range p from zero = refl
all_in_range p from (suc n) =
    ap (λ a. p from && a) (all_in_range p (from + 1) n ∙ same_below (λ b. p (from + 1 + b)) (λ b. p (from + suc b)) n (λ b. ap p (omega arith))) ∙
    ap (λ x. p x && all_below (λ b. p (from + suc b)) n) (let e : from ≡ from + 0 = omega arith in e) ∙ sym (all_below_first (λ b. p (from + b)) n)

pub all_listed : {X : Type 0} (p : X → Bool) (xs : List X) (d : X) → list_all p xs ≡ all_below (λ j. p (get_or xs j d)) (length xs)
all_listed p [] d = refl
all_listed p (x ∷ xs) d = ap (λ a. p x && a) (all_listed p xs d) ∙ sym (all_below_first (λ j. p (get_or (x ∷ xs) j d)) (length xs))
