-- Where the rows of the parts stand among all rows, and what the parts are.
use Rattle.std.proofs.Common.{◌≡◌, ℕ, ◌+◌, ◌-◌, ◌*◌, ◌/◌, ◌%◌, ◌<◌, ◌≤◌, cond, ltb, leb, List, ◌++◌, length, get_or, refl, ap, ◌∙◌, inl, inr, mul-le-mul_right, mod-lt, add-mul, mul-zero, div-add-mod', zero-mul, arith}
use Rattle.std.proofs.lemmas.List.{get_or_append_left, get_or-append_right, length-append}
use Rattle.std.proofs.lemmas.Bool.{cases_Bool, cases_lt, leb-true, leb-false, lt-ltb, le-ltb, ne_eqb}
use Rattle.model.specs.Loop.{Loop}
use Rattle.model.specs.Edges.{each}
use Rattle.model.specs.Schedule.{Schedule, stages}
use Rattle.model.specs.Issues.{passes}
use Rattle.model.specs.Listing.{head_of, parts_of, all_front, with_kernel, passes_run}
use Rattle.listing_laws.proofs.Each.{length_table, at_table}

-- Three tables one after another.
module _ {A : Type 0} (f g h : ℕ → List A) (k a b c : ℕ) (lf : (q : ℕ) → length (f q) ≡ k) (lg : (q : ℕ) → length (g q) ≡ k) (lh : (q : ℕ) → length (h q) ≡ k) where
  abbrev all : List A
  all = each f a ++ (each g b ++ each h c)

  within : (q n r : ℕ) → q < n → r < k → q * k + r < n * k
  within q n r hq hr = let le : q + 1 ≤ n = omega arith in omega (arith, mul-le-mul_right k le, add-mul q 1 k)

  pub at_first : (q r : ℕ) (d : A) → q < a → r < k → get_or all (q * k + r) d ≡ get_or (f q) r d
  at_first q r d hq hr =
      get_or_append_left (each f a) _ d (q * k + r) (omega (arith, length_table f k a lf, within q a r hq hr)) ∙ at_table f k a q r d lf hq hr

  pub at_second : (q r : ℕ) (d : A) → q < b → r < k → get_or all ((a + q) * k + r) d ≡ get_or (g q) r d
  at_second q r d hq hr =
      let back : (a + q) * k + r - a * k ≡ q * k + r = omega (arith, add-mul a q k) in
      get_or-append_right (each f a) _ (a * k) ((a + q) * k + r) d (length_table f k a lf) (omega (arith, add-mul a q k)) ∙
      ap (λ i. get_or (each g b ++ each h c) i d) back ∙
      get_or_append_left (each g b) _ d (q * k + r) (omega (arith, length_table g k b lg, within q b r hq hr)) ∙ at_table g k b q r d lg hq hr

  pub at_third : (q r : ℕ) (d : A) → q < c → r < k → get_or all ((a + b + q) * k + r) d ≡ get_or (h q) r d
  at_third q r d hq hr =
      let back : (a + b + q) * k + r - a * k ≡ (b + q) * k + r = omega (arith, add-mul (a + b) q k, add-mul a b k, add-mul b q k) in
      let more : (b + q) * k + r - b * k ≡ q * k + r = omega (arith, add-mul b q k) in
      get_or-append_right (each f a) _ (a * k) ((a + b + q) * k + r) d (length_table f k a lf) (omega (arith, add-mul (a + b) q k, add-mul a b k)) ∙
      ap (λ i. get_or (each g b ++ each h c) i d) back ∙
      get_or-append_right (each g b) _ (b * k) ((b + q) * k + r) d (length_table g k b lg) (omega (arith, add-mul b q k)) ∙
      ap (λ i. get_or (each h c) i d) more ∙
      at_table h k c q r d lh hq hr

  pub length_three : length all ≡ (a + b + c) * k
  length_three =
      omega (arith, length-append (each f a) (each g b ++ each h c), length-append (each g b) (each h c), length_table f k a lf, length_table g k b lg, length_table h k c lh, add-mul (a + b) c k, add-mul a b k)

-- What the parts are: all is front, or there are `more` trips behind the head.
pub data Kind (ops : Loop) (w : Schedule) (turns trips : ℕ) : Type 0 where
  short : trips ≤ head_of ops w → parts_of ops w turns trips ≡ all_front (passes w (length ops) trips) → Kind ops w turns trips
  long : (more : ℕ) → head_of ops w + more ≡ trips → 0 < more →
      parts_of ops w turns trips ≡ with_kernel (head_of ops w) (stages w (length ops)) turns more → Kind ops w turns trips

pub kind_of : (ops : Loop) (w : Schedule) (turns trips : ℕ) → Kind ops w turns trips
unfolding parts_of
kind_of ops w turns trips = elim (cases_Bool (leb trips (head_of ops w))) [
  | inl e ↦ short (leb-true _ _ e) (rw e)
  | inr e ↦ let above = leb-false trips (head_of ops w) e in long (trips - head_of ops w) (omega arith) (omega arith) (rw e)
]

-- The repeats, the kernel's passes and what is left make up the trips behind the head.
pub record Split (turns more repeats kernel left : ℕ) : Type 0 where
  pub whole : repeats * kernel + left ≡ more
  pub short_left : left < turns
  pub a_turn : 0 < repeats → kernel ≡ turns
  pub no_kernel : repeats ≡ 0 → kernel ≡ 0
  pub small : kernel ≤ turns

pub split_of : (turns more : ℕ) → 0 < turns → Split turns more (more / turns) (cond (ltb 0 (more / turns)) turns 0) (more % turns)
split_of turns more some = elim (cases_lt 0 (more / turns)) [
  | inl h ↦ rw (lt-ltb 0 (more / turns) h) (record {
    whole = div-add-mod' more turns;
    short_left = mod-lt more some;
    a_turn = λ _. refl;
    no_kernel = λ e. absurd (omega arith);
    small = omega arith;
  })
  | inr h ↦
      let zero_quotient : more / turns ≡ 0 = omega arith in
      rw (le-ltb 0 (more / turns) h) (record {
        whole = omega (arith, div-add-mod' more turns, ap (λ x. x * turns) zero_quotient, zero-mul turns, mul-zero (more / turns));
        short_left = mod-lt more some;
        a_turn = λ l. absurd (omega arith);
        no_kernel = λ _. refl;
        small = omega arith;
      })
]

-- The passes of the parts are those of the run.
pub passes_whole : (ops : Loop) (w : Schedule) (turns trips : ℕ) → 0 < turns → 0 < stages w (length ops) →
    passes_run (parts_of ops w turns trips) ≡ passes w (length ops) trips
passes_whole ops w turns trips some deep = elim (kind_of ops w turns trips) [
  | short h e ↦ rw e (omega (arith, zero-mul 0))
  | long more is some_more e ↦
      let s = split_of turns more some in
      let not_none : trips ≡ 0 → ⊥ = omega arith in
      rw (e, ne_eqb trips 0 not_none) (omega (arith, s.whole))
]
