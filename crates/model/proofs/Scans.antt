-- Steps of the loops over a word. Assumes nothing.
use Rattle.std.proofs.Common.{◌≡◌, ℕ, ◌+◌, ◌-◌, ◌*◌, ◌^◌, ◌<◌, ◌≤◌, Bool, true, false, ◌&&◌, leb, List, length, get_or, drop, fold, sym, ap, ◌∙◌, arith, pow-add}
use Rattle.std.proofs.lemmas.List.{at_drop_more, at_drop_all}
use Rattle.std.proofs.lemmas.Bool.{and_parts, leb-true}
use Rattle.model.specs.Shapes.{every, between, digit, is_number}

module _ (p : ℕ → Bool) (xs : List ℕ) (i : ℕ) where
  pub every_yes : i < length xs → p (get_or xs i 0) ≡ true → every p (drop i xs) ≡ every p (drop (i + 1) xs)
  every_yes h e = at_drop_more (every p) xs i 0 h ∙ ap (λ b. b && every p (drop (i + 1) xs)) e

  pub every_no : i < length xs → p (get_or xs i 0) ≡ false → every p (drop i xs) ≡ false
  every_no h e = at_drop_more (every p) xs i 0 h ∙ ap (λ b. b && every p (drop (i + 1) xs)) e

  pub every_all : length xs ≤ i → every p (drop i xs) ≡ true
  every_all h = at_drop_all (every p) xs i h

  pub every_here : i < length xs → every p (drop i xs) ≡ true → (p (get_or xs i 0) ≡ true) × (every p (drop (i + 1) xs) ≡ true)
  every_here h e = and_parts _ _ (sym (at_drop_more (every p) xs i 0 h) ∙ e)

pub digit_bounds : (b : ℕ) → digit b ≡ true → (48 ≤ b) × (b ≤ 57)
digit_bounds b e = let x = and_parts (leb 48 b) (leb b 57) e in (leb-true 48 b x.0, leb-true b 57 x.1)

abbrev pub more : ℕ → ℕ → ℕ
more n b = n * 10 + (b - 48)

pub value_more : (xs : List ℕ) (i n v : ℕ) → i < length xs → fold more n (drop i xs) ≡ v → fold more (n * 10 + (get_or xs i 0 - 48)) (drop (i + 1) xs) ≡ v
value_more xs i n v h e = sym (at_drop_more (fold more n) xs i 0 h) ∙ e

pub value_end : (xs : List ℕ) (i n v : ℕ) → length xs ≤ i → fold more n (drop i xs) ≡ v → n ≡ v
value_end xs i n v h e = sym (at_drop_all (fold more n) xs i h) ∙ e

pub pow_more : (i n b : ℕ) → n < 10 ^ i → b ≤ 57 → n * 10 + (b - 48) < 10 ^ (i + 1)
pow_more i n b h k = omega (arith, pow-add 10 i 1)

pub number_parts : (w : List ℕ) → is_number w ≡ true → (1 ≤ length w) × (length w ≤ 5) × (every digit w ≡ true)
number_parts w e =
    let x = and_parts (between 1 5 (length w)) (every digit w) e in
    let y = and_parts (leb 1 (length w)) (leb (length w) 5) x.0 in
    (leb-true 1 (length w) y.0, leb-true (length w) 5 y.1, x.1)
