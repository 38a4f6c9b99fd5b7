-- Two lists that agree place by place.
use Rattle.std.proofs.Common.{◌≡◌, ℕ, ◌+◌, ◌<◌, List, [], ◌∷◌, ◌++◌, map, length, get_or, take, set, refl, ap, ◌∙◌}
use Rattle.std.proofs.lemmas.List.{take_more, take_more_set}
use Rattle.std.specs.List.{AllZip}

zipped_push : {A B : Type 0} (R : A → B → Type 0) (xs : List A) (ys : List B) (x : A) (y : B) → AllZip R xs ys → R x y → AllZip R (xs ++ x ∷ []) (ys ++ y ∷ [])
zipped_push R [] [] x y zs r = (r, tt)
zipped_push R [] (b ∷ ys) x y zs r = absurd zs
zipped_push R (a ∷ xs) [] x y zs r = absurd zs
zipped_push R (a ∷ xs) (b ∷ ys) x y zs r = (zs.0, zipped_push R xs ys x y zs.1 r)

pub zipped_more : {A B : Type 0} (R : A → B → Type 0) (xs : List A) (ys : List B) (i : ℕ) (x : A) (y : B) → i < length xs → i < length ys → x ≡ get_or xs i x → R x y →
    AllZip R (take i xs) (take i ys) → AllZip R (take (i + 1) xs) (take (i + 1) (set ys i y))
zipped_more R xs ys i x y h k q r zs =
    rw (take_more xs i x h, take_more_set ys i y k, ← q) (zipped_push R (take i xs) (take i ys) x y zs r)

-- Where h of each is g of its partner, so it is of the lists.
pub zipped_map : {A B C : Type 0} (R : A → B → Type 0) (h : B → C) (g : A → C) → ((x : A) (y : B) → R x y → h y ≡ g x) → (xs : List A) (ys : List B) → AllZip R xs ys → map h ys ≡ map g xs
zipped_map R h g same [] [] zs = refl
zipped_map R h g same [] (b ∷ ys) zs = absurd zs
zipped_map R h g same (a ∷ xs) [] zs = absurd zs
zipped_map {C = C} R h g same (a ∷ xs) (b ∷ ys) zs = ap (λ r. h b ∷ r) (zipped_map R h g same xs ys zs.1) ∙ ap (λ c. c ∷ map g xs) (same a b zs.0)

pub zipped_same : {A B : Type 0} (R : A → B → Type 0) (g : A → B) → ((x : A) (y : B) → R x y → y ≡ g x) → (xs : List A) (ys : List B) → AllZip R xs ys → ys ≡ map g xs
zipped_same R g same [] [] zs = refl
zipped_same R g same [] (b ∷ ys) zs = absurd zs
zipped_same R g same (a ∷ xs) [] zs = absurd zs
zipped_same {B = B} R g same (a ∷ xs) (b ∷ ys) zs = ap (λ r. b ∷ r) (zipped_same R g same xs ys zs.1) ∙ ap (λ c. c ∷ map g xs) (same a b zs.0)
