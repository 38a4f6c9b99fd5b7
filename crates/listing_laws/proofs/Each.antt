-- Lists made of a list for each number.
use Rattle.std.proofs.Common.{◌≡◌, ℕ, zero, suc, ◌+◌, ◌-◌, ◌*◌, ◌<◌, ◌≤◌, List, [], ◌∷◌, ◌++◌, map, length, get_or, sym, refl, ap, ◌∙◌, ap₂, inl, inr, mul-le-mul_right, add-mul, one-mul, zero-mul, add-one, arith}
use Rattle.std.specs.List.{flat_map}
use Rattle.std.proofs.lemmas.List.{map-append, length-append, length_push, get_or_push, get_or_append_left, get_or-append_right}
use Rattle.std.proofs.lemmas.Grind.{flat_map-append}
use Rattle.std.proofs.lemmas.Bool.{cases_eq}
use Rattle.model.specs.Loop.{total}
use Rattle.model.specs.Edges.{each}

pub each_same : {A : Type 0} (f g : ℕ → List A) (n : ℕ) → ((j : ℕ) → j < n → f j ≡ g j) → each f n ≡ each g n
each_same f g zero h = refl
each_same f g (suc n) h = ap₂ ◌++◌ (each_same f g n (λ j l. h j (omega arith))) (h n (omega arith))

pub map_each : {A B : Type 0} (m : A → B) (f : ℕ → List A) (n : ℕ) → map m (each f n) ≡ each (λ j. map m (f j)) n
map_each m f zero = refl
map_each m f (suc n) = map-append m (each f n) (f n) ∙ ap (λ xs. xs ++ map m (f n)) (map_each m f n)

-- What is written first is no longer than the whole.
pub each_front : {A : Type 0} (f : ℕ → List A) (m n : ℕ) → m ≤ n → length (each f m) ≤ length (each f n)
each_front f m zero h = let e : m ≡ 0 = omega arith in rw e (omega arith)
each_front f m (suc n) h = elim (cases_eq m (suc n)) [
  | inl e ↦ rw e (omega arith)
  | inr z ↦ omega (arith, each_front f m n (omega arith), length-append (each f n) (f n))
]

pub each_up_to : {A : Type 0} (f : ℕ → List A) (m n : ℕ) → m < n → length (each f m) + length (f m) ≤ length (each f n)
each_up_to f m n h = omega (arith, each_front f (suc m) n h, length-append (each f m) (f m))

-- One for each number.
pub length_ones : {A : Type 0} (f : ℕ → A) (k : ℕ) → length (each (λ r. f r ∷ []) k) ≡ k
length_ones f zero = refl
length_ones f (suc k) = length_push (each (λ r. f r ∷ []) k) (f k) ∙ ap (λ n. n + 1) (length_ones f k) ∙ add-one k

pub at_ones : {A : Type 0} (f : ℕ → A) (k r : ℕ) (d : A) → r < k → get_or (each (λ q. f q ∷ []) k) r d ≡ f r
at_ones f zero r d h = absurd (omega arith)
at_ones f (suc k) r d h = elim (cases_eq r k) [
  | inl e ↦ rw e (get_or_push (each (λ q. f q ∷ []) k) (f k) d k (length_ones f k))
  | inr z ↦ get_or_append_left (each (λ q. f q ∷ []) k) (f k ∷ []) d r (omega (arith, length_ones f k)) ∙ at_ones f k r d (omega arith)
]

-- k for each number: a table of n rows by k.
pub length_table : {A : Type 0} (f : ℕ → List A) (k n : ℕ) → ((q : ℕ) → length (f q) ≡ k) → length (each f n) ≡ n * k
length_table f k zero h = sym (zero-mul k)
length_table f k (suc n) h = length-append (each f n) (f n) ∙ omega (arith, length_table f k n h, h n, add-mul n 1 k, one-mul k)

pub at_table : {A : Type 0} (f : ℕ → List A) (k n q r : ℕ) (d : A) → ((q : ℕ) → length (f q) ≡ k) → q < n → r < k → get_or (each f n) (q * k + r) d ≡ get_or (f q) r d
at_table f k zero q r d h lq lr = absurd (omega arith)
at_table f k (suc n) q r d h lq lr = elim (cases_eq q n) [
  | inl e ↦
      let back : q * k + r - n * k ≡ r = rw e (omega arith) in
      let at : n * k ≤ q * k + r = rw e (omega arith) in
      get_or-append_right (each f n) (f n) (n * k) (q * k + r) d (length_table f k n h) at ∙ ap₂ (λ i m. get_or (f m) i d) back (sym e)
  | inr z ↦
      let le : suc q ≤ n = omega arith in
      get_or_append_left (each f n) (f n) d (q * k + r) (omega (arith, length_table f k n h, mul-le-mul_right k le, add-mul q 1 k, one-mul k)) ∙
      at_table f k n q r d h (omega arith) lr
]

pub joined_append : {A : Type 0} (xs ys : List (List A)) → flat_map (λ row. row) (xs ++ ys) ≡ flat_map (λ row. row) xs ++ flat_map (λ row. row) ys
joined_append xs ys = flat_map-append (λ row. row) xs ys

pub joined_each : {A : Type 0} (f : ℕ → List (List A)) (n : ℕ) → flat_map (λ row. row) (each f n) ≡ each (λ q. flat_map (λ row. row) (f q)) n
joined_each f zero = refl
joined_each f (suc n) = joined_append (each f n) (f n) ∙ ap (λ xs. xs ++ flat_map (λ row. row) (f n)) (joined_each f n)

-- Where each has at most m.
pub each_short : {A : Type 0} (f : ℕ → List A) (m n : ℕ) → ((q : ℕ) → length (f q) ≤ m) → length (each f n) ≤ n * m
each_short f m zero h = omega (arith, zero-mul m)
each_short f m (suc n) h = omega (arith, length-append (each f n) (f n), each_short f m n h, h n, add-mul n 1 m, one-mul m)

pub length_each : {A : Type 0} (f : ℕ → List A) (n : ℕ) → length (each f n) ≡ total (λ j. length (f j)) n
length_each f zero = refl
length_each f (suc n) = length-append (each f n) (f n) ∙ ap (λ x. x + length (f n)) (length_each f n)
