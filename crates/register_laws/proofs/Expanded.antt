-- The expanded scheme keeps the law.
use Rattle.std.proofs.Common.{◌≡◌, ℕ, zero, suc, ◌+◌, ◌-◌, ◌*◌, ◌/◌, ◌%◌, ◌<◌, ◌≤◌, max, ltb, List, [], ◌∷◌, length, get_or, take, sym, refl, ap, ◌∙◌, subst, inl, inr, mod-lt, add-mul, mul-le-mul_left, le-div_iff_mul-le, mul-one, mul-add, mul_comm, arith}
use native.Mathlib.Nat.{div-add-mod}
use Rattle.std.proofs.lemmas.Nat.{mul-add-lt, div-mul-add}
use Rattle.std.proofs.lemmas.Bool.Decides.{nat_tests}
use Rattle.std.proofs.lemmas.Bool.{cases_lt, cases_order, lt-ltb, cond-true}
use Rattle.model.specs.declared.Life.{Life}
use Rattle.model.specs.Lives.{Table, no_life, life, Limits, Alive}
use Rattle.model.specs.Schemes.{Apart, Lawful, less, want, greatest_want, expanded_turns, expanded_need, expanded_with, expanded}
use Rattle.model.specs.SchemeLaws.{KeepsLaw}
use Rattle.register_laws.proofs.Modulo.{back_of_mod}
use Rattle.register_laws.proofs.Names.{named, unnamed, named_below}

-- U v + x < U (v + 1) for x < U
pub within : (U v n x : ℕ) → v < n → x < U → U * v + x < U * n
within U v n x h lt = rw (mul_comm U v) (mul-add-lt v U x n h lt)

-- the row of U registers and the place in it
same_row : (U v w x y : ℕ) → x < U → y < U → U * v + x ≡ U * w + y → v ≡ w
same_row U v w x y hx hy e =
    let turned = rw (mul_comm U v, mul_comm U w) at e in
    sym (div-mul-add v U x hx) ∙ ap (λ r. r / U) turned ∙ div-mul-add w U y hy

-- with one remainder and less than U apart
same_turn : (U i j : ℕ) → i % U ≡ j % U → i ≤ j → j < i + U → i ≡ j
same_turn U i j e le near =
    let a = div-add-mod i U in
    let b = div-add-mod j U in
    elim (cases_order (i / U) (j / U)) [
      | inl q ↦ let s = ap (λ x. U * x) q in omega arith
      | inr (inl lt) ↦ let m : U * (i / U + 1) ≤ U * (j / U) = mul-le-mul_left U (omega arith) in
          let s = mul-add U (i / U) 1 in let o = mul-one U in omega arith
      | inr (inr gt) ↦ let m : U * (j / U + 1) ≤ U * (i / U) = mul-le-mul_left U (omega arith) in
          let s = mul-add U (j / U) 1 in let o = mul-one U in let z : ⊥ = omega arith in absurd z
    ]

-- two instances of one variable that share a cycle are less than its want apart
near : (k i j s e c : ℕ) → 0 < k → i ≤ j → c ≤ e + i * k → s + j * k ≤ c → j < i + ((e - s) / k + 1)
near k i j s e c some le x y =
    let p : j ≡ j - i + i = omega arith in
    let q : j * k ≡ (j - i) * k + i * k = ap (λ n. n * k) p ∙ add-mul (j - i) i k in
    let z : j - i ≤ (e - s) / k = (le-div_iff_mul-le some).1 (omega arith) in
    omega arith

pub want_at_most : (k : ℕ) (ls : List Life) (v : ℕ) → v < length ls → want k (get_or ls v no_life) ≤ greatest_want k ls
want_at_most k [] v h = let f : ⊥ = omega arith in absurd f
want_at_most k (l ∷ ls) zero h = omega arith
want_at_most k (l ∷ ls) (suc v) h = let r = want_at_most k ls v (omega arith) in omega arith

pub some_want : (k : ℕ) (ls : List Life) → 1 ≤ greatest_want k ls
some_want k [] = omega arith
some_want k (l ∷ ls) = let r = some_want k ls in omega arith

pub greatest_more : (k : ℕ) (ls : List Life) (v : ℕ) → v < length ls → greatest_want k (take (v + 1) ls) ≡ max (greatest_want k (take v ls)) (want k (get_or ls v no_life))
greatest_more k [] v h = let f : ⊥ = omega arith in absurd f
greatest_more k (l ∷ ls) zero h = omega arith
greatest_more k (l ∷ ls) (suc v) h =
    let r = greatest_more k ls v (omega arith) in
    let e : suc v + 1 ≡ suc (v + 1) = omega arith in
    ap (λ n. greatest_want k (take n (l ∷ ls))) e ∙ omega arith

-- U registers for each variable keep instances apart if no life wants more
module _ (t : Table) (U : ℕ) (some : 0 < t.interval) (turns : 1 ≤ U)
    (wants : (v : ℕ) → v < length t.lives → want t.interval (life t v) ≤ U) where
  one : (v i j c : ℕ) → i ≤ j → Alive t v i c → Alive t v j c → i % U ≡ j % U → i ≡ j
  one v i j c le a b e =
      let n = near t.interval i j (life t v).start (life t v).end c some le a.lasts b.begun in
      let w = wants v a.known in
      same_turn U i j e le (omega arith)

  pub turning_apart : Apart t (λ v i. U * v + i % U)
  turning_apart v i w j c a b same =
      let hi : i % U < U = mod-lt i (omega arith) in
      let hj : j % U < U = mod-lt j (omega arith) in
      let row = same_row U v w (i % U) (j % U) hi hj same in
      let b' : Alive t v j c = subst (λ x. Alive t x j c) (sym row) b in
      let turn : i % U ≡ j % U = let r = ap (λ x. U * x) row in omega arith in
      elim (cases_lt i j) [
        | inl lt ↦ (row, one v i j c (omega arith) a b' turn)
        | inr ge ↦ (row, sym (one v j i c ge b' a (sym turn)))
      ]

pub place_of : (n U v i : ℕ) → v < n → (expanded_with n U).place v i ≡ U * v + i % U
place_of n U v i h = cond-true (ltb v n) _ 0 (lt-ltb v n h)

-- what an accepted table gives
pub few_turns : (t : Table) → expanded_need t ≤ 64 → expanded_turns t ≤ 8
few_turns t fits = grind (arith, nat_tests)

pub all_fit : (t : Table) → expanded_need t ≤ 64 → expanded_turns t * length t.lives ≤ 64
all_fit t fits = grind (arith, nat_tests)

pub expanded_apart : (t : Table) → Limits t → Apart t (expanded t).place
expanded_apart t limits v i w j c a b same =
    let n = length t.lives in
    let U = expanded_turns t in
    turning_apart t U (omega (arith, limits.some)) (some_want t.interval t.lives) (λ x h. want_at_most t.interval t.lives x h)
    v i w j c a b (sym (place_of n U v i a.known) ∙ same ∙ place_of n U w j b.known)

module _ (n U : ℕ) (some : 1 ≤ U) (few : U ≤ 8) (fits : U * n ≤ 64) where
  below : (v x : ℕ) → v < n → x < U → U * v + x < 64
  below v x hv hx = let w = within U v n x hv hx in omega arith

  leads : (v p r : ℕ) → v < n → r ≤ 14 → r ≤ p → (expanded_with n U).resolve ((expanded_with n U).name v (p % U) r) p ≡ (expanded_with n U).place v (p - r)
  leads v p r hv hr hp =
      let x = named n U v (p % U) r (U * v + less U (p % U) r) hv (mod-lt p (omega arith)) hr in
      let l = ap (λ y. U * v + y) (back_of_mod U p r (omega arith) hp) in
      let b = below v ((p - r) % U) hv (mod-lt (p - r) (omega arith)) in
      ap (λ a. (expanded_with n U).resolve a p) (x ∙ l) ∙ cond-true _ _ 0 (lt-ltb _ 64 b) ∙ sym (place_of n U v (p - r) hv)

  pub expanded_lawful : Lawful (expanded_with n U)
  expanded_lawful = record {
    some_file = omega arith;
    small_file = omega arith;
    some_turns = some;
    few_turns = few;
    names_below = λ v c r. named_below n U v c r (U * v + less U c r) 64 (omega arith) (λ hv _. below v (less U c r) hv (mod-lt _ (omega arith)));
    names_outside = λ v c r. unnamed n U v c r (U * v + less U c r);
    registers_below = λ a p. grind (arith, nat_tests);
    registers_outside = λ a p h. grind (arith, nat_tests);
    places_below = λ v i h. let e = place_of n U v i h in let b = below v (i % U) h (mod-lt i (omega arith)) in omega arith;
    resolves = leads;
  }

pub expanded_keeps : KeepsLaw expanded
expanded_keeps t limits fits = record {
  lawful = expanded_lawful (length t.lives) (expanded_turns t) (some_want t.interval t.lives) (few_turns t fits) (all_fit t fits);
  variables = refl;
  apart = expanded_apart t limits;
}
