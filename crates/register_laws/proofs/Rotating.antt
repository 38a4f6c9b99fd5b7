-- The rotating scheme keeps the law.
use Rattle.std.proofs.Common.{◌≡◌, ℕ, zero, suc, ◌+◌, ◌-◌, ◌*◌, ◌/◌, ◌%◌, ◌<◌, ◌≤◌, Bool, true, cond, ◌&&◌, ltb, leb, List, [], ◌∷◌, length, get_or, take, take_all, sym, refl, ap, ◌∙◌, subst, inl, inr, le_trans, le-div_iff_mul-le, div-mul-le_self, arith}
use native.Mathlib.Nat.{add-mul-div_right}
use mathlib.Core.Path.{fun_ext}
use Rattle.std.proofs.lemmas.Bool.Decides.{nat_tests}
use Rattle.std.proofs.lemmas.Bool.{cases_Bool, cases_lt, cases_order, and_parts, ltb-true, lt-ltb, le-ltb, cond-true, cond-false}
use Rattle.model.specs.declared.Life.{Life}
use Rattle.model.specs.Lives.{Table, no_life, life, Limits}
use Rattle.model.specs.Schemes.{Apart, Lawful, width, widths, rotating_need, rotating_base, rotating_with, rotating}
use Rattle.model.specs.SchemeLaws.{KeepsLaw}
use Rattle.register_laws.proofs.Modulo.{forth_and_back}
use Rattle.register_laws.proofs.Names.{named, unnamed, named_below}

-- a lower variable's registers end before a higher one's begin
lower : (k : ℕ) (ls : List Life) (v w : ℕ) → v < w → v < length ls → widths k (take v ls) + width k (get_or ls v no_life) ≤ widths k (take w ls)
lower k [] v w lt h = omega arith
lower k (l ∷ ls) zero zero lt h = omega arith
lower k (l ∷ ls) zero (suc w) lt h = omega arith
lower k (l ∷ ls) (suc v) zero lt h = omega arith
lower k (l ∷ ls) (suc v) (suc w) lt h = let r = lower k ls v w (omega arith) (omega arith) in omega arith

pub widths_more : (k : ℕ) (ls : List Life) (v : ℕ) → v < length ls → widths k (take (v + 1) ls) ≡ widths k (take v ls) + width k (get_or ls v no_life)
widths_more k [] v h = let f : ⊥ = omega arith in absurd f
widths_more k (l ∷ ls) zero h = omega arith
widths_more k (l ∷ ls) (suc v) h =
    let r = widths_more k ls v (omega arith) in
    let e : suc v + 1 ≡ suc (v + 1) = omega arith in
    ap (λ n. widths k (take n (l ∷ ls))) e ∙ omega arith

all : (k : ℕ) (ls : List Life) (v : ℕ) → v < length ls → widths k (take v ls) + width k (get_or ls v no_life) ≤ widths k ls
all k ls v h = subst (λ some. widths k (take v ls) + width k (get_or ls v no_life) ≤ widths k some) (take_all (length ls) ls (omega arith)) (lower k ls v (length ls) h h)

pub div_le_div_right : {a b : ℕ} (k : ℕ) → 0 < k → a ≤ b → a / k ≤ b / k
div_le_div_right {a} {b} k some h = (le-div_iff_mul-le some).1 (le_trans (div-mul-le_self a k) h)

-- the stage of cycle c lies within the instance's stages
module _ (k x i c : ℕ) (some : 0 < k) where
  from_below : x + i * k ≤ c → x / k + i ≤ c / k
  from_below h = subst (λ n. n ≤ c / k) (add-mul-div_right x i some) (div_le_div_right k some h)

  upto_above : c ≤ x + i * k → c / k ≤ x / k + i
  upto_above h = subst (λ n. c / k ≤ n) (add-mul-div_right x i some) (div_le_div_right k some h)

-- a place and the stage give back the register's number before rotation
back : (W f u i s : ℕ) → f + i ≤ s → s ≤ u + i → W + (u - f + 1) ≤ 64 → ((W + 63 * f) % 64 + 63 * i + s) % 64 ≡ W + (s - (f + i))
back W f u i s a b c = omega arith

unlike : (W f u i W' f' u' j s : ℕ) → ((W + 63 * f) % 64 + 63 * i) % 64 ≡ ((W' + 63 * f') % 64 + 63 * j) % 64
    → f + i ≤ s → s ≤ u + i → W + (u - f + 1) ≤ 64 → f' + j ≤ s → s ≤ u' + j → W' + (u' - f' + 1) ≤ 64
    → W + (s - (f + i)) ≡ W' + (s - (f' + j))
unlike W f u i W' f' u' j s e a b c a' b' c' =
    let x = back W f u i s a b c in
    let y = back W' f' u' j s a' b' c' in
    omega arith

-- the place of a variable
pub place_of : (n : ℕ) (base : ℕ → ℕ) (v i : ℕ) → v < n → (rotating_with n base).place v i ≡ (base v + 63 * i) % 64
place_of n base v i h = cond-true (ltb v n) _ 0 (lt-ltb v n h)

pub rotating_apart : (t : Table) → Limits t → rotating_need t ≤ 64 → Apart t (rotating t).place
rotating_apart t limits fits v i w j c a b same =
    let k = t.interval in
    let ls = t.lives in
    let n = length ls in
    let some : 0 < k = omega (arith, limits.some) in
    let places = sym (place_of n (rotating_base t) v i a.known) ∙ same ∙ place_of n (rotating_base t) w j b.known in
    let a1 = from_below k (life t v).start i c some a.begun in
    let a2 = upto_above k (life t v).end i c some a.lasts in
    let b1 = from_below k (life t w).start j c some b.begun in
    let b2 = upto_above k (life t w).end j c some b.lasts in
    let va = all k ls v a.known in
    let wa = all k ls w b.known in
    let eq = unlike (widths k (take v ls)) ((life t v).start / k) ((life t v).end / k) i (widths k (take w ls)) ((life t w).start / k) ((life t w).end / k) j (c / k) places a1 a2 (omega arith) b1 b2 (omega arith) in
    elim (cases_order v w) [
      | inl e ↦ (e, let w1 = ap (λ x. widths k (take x ls)) e in let w2 = ap (λ x. (life t x).start / k) e in omega arith)
      | inr (inl lt) ↦ let z = lower k ls v w lt a.known in let f : ⊥ = omega arith in absurd f
      | inr (inr gt) ↦ let z = lower k ls w v gt b.known in let f : ⊥ = omega arith in absurd f
    ]

-- whatever its bases are, the ranges hold and names lead to places
module _ (n : ℕ) (base : ℕ → ℕ) where
  leads : (v p r : ℕ) → v < n → r ≤ 14 → r ≤ p → (rotating_with n base).resolve ((rotating_with n base).name v (p % 1) r) p ≡ (rotating_with n base).place v (p - r)
  leads v p r hv hr hp =
      let x = named n 1 v (p % 1) r ((base v + r) % 64) hv (omega arith) hr in
      let y : ltb ((base v + r) % 64) 64 ≡ true = lt-ltb _ 64 (omega arith) in
      ap (λ a. (rotating_with n base).resolve a p) x ∙ cond-true _ _ 0 y ∙ forth_and_back (base v) r p hp ∙ sym (place_of n base v (p - r) hv)

  pub rotating_lawful : Lawful (rotating_with n base)
  rotating_lawful = record {
    some_file = omega arith;
    small_file = omega arith;
    some_turns = omega arith;
    few_turns = omega arith;
    names_below = λ v c r. named_below n 1 v c r ((base v + r) % 64) 64 (omega arith) (λ _ _. omega arith);
    names_outside = λ v c r. unnamed n 1 v c r ((base v + r) % 64);
    registers_below = λ a p. grind (arith, nat_tests);
    registers_outside = λ a p h. grind (arith, nat_tests);
    places_below = λ v i h. let e = place_of n base v i h in omega arith;
    resolves = leads;
  }

pub rotating_keeps : KeepsLaw rotating
rotating_keeps t limits fits = record {
  lawful = rotating_lawful (length t.lives) (rotating_base t);
  variables = refl;
  apart = rotating_apart t limits fits;
}

-- only the bases of the variables count
module _ (n : ℕ) (f g : ℕ → ℕ) (same : (v : ℕ) → v < n → f v ≡ g v) where
  guarded : (v : ℕ) (b : Bool) (F : ℕ → ℕ) → cond (ltb v n && b) (F (f v)) 0 ≡ cond (ltb v n && b) (F (g v)) 0
  guarded v b F = elim (cases_Bool (ltb v n && b)) [
    | inl e ↦ cond-true _ _ 0 e ∙ ap F (same v (ltb-true v n (and_parts _ _ e).0)) ∙ sym (cond-true _ _ 0 e)
    | inr e ↦ cond-false _ _ 0 e ∙ sym (cond-false _ _ 0 e)
  ]

  placed : (v i : ℕ) → (rotating_with n f).place v i ≡ (rotating_with n g).place v i
  placed v i = elim (cases_lt v n) [
    | inl h ↦ place_of n f v i h ∙ ap (λ a. (a + 63 * i) % 64) (same v h) ∙ sym (place_of n g v i h)
    | inr h ↦ cond-false _ _ 0 (le-ltb v n h) ∙ sym (cond-false _ _ 0 (le-ltb v n h))
  ]

  pub rotating_same : rotating_with n f ≡ rotating_with n g
  rotating_same = λ x. record {
    file = 64;
    need = rotating_need;
    variables = n;
    turns = 1;
    place = fun_ext (λ v. fun_ext (placed v)) x;
    name = fun_ext (λ v. fun_ext (λ c. fun_ext (λ r. guarded v (ltb c 1 && leb r 14) (λ a. (a + r) % 64)))) x;
    resolve = (rotating_with n f).resolve;
  }
