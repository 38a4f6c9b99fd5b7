-- Early times and torn edges by weights.
use Rattle.std.proofs.Common.{◌≡◌, ℕ, zero, suc, ◌+◌, ◌-◌, ◌*◌, ◌<◌, ◌≤◌, max, Bool, true, false, cond, not, ◌&&◌, ◌||◌, eqb, ltb, List, [], ◌∷◌, ◌++◌, length, get_or, take, Some, None, Option, sym, refl, ap, ◌∙◌, ap₂, inl, inr, arith}
use Rattle.std.specs.List.{AllByRecursion}
use Rattle.std.proofs.lemmas.List.{take_more}
use Rattle.std.proofs.lemmas.Bool.{cases_eq, cases_lt, cases_Bool, eq-eqb, ne_eqb, lt-ltb, le-ltb}
use Rattle.model.specs.declared.Edge.{Edge}
use Rattle.model.specs.Limits.{EdgeFits}
use Rattle.model.specs.Search.{Times, after, early, late, torn}
use Rattle.graph_laws.proofs.Steps.{loss_fits}
use Rattle.search_laws.specs.Weights.{lifted, weight, asked, unmet, early_by, torn_by}

asked_max : (a b : ℕ) (o : Option ℕ) → asked (max a b) o ≡ max (asked a o) (asked b o)
asked_max zero b o = let e : max 0 b ≡ b = omega arith in rw e (omega arith)
asked_max (suc a) zero o = let e : max (suc a) 0 ≡ suc a = omega arith in rw e (omega arith)
asked_max (suc a) (suc b) None = let e : max (suc a) (suc b) ≡ suc (max a b) = omega arith in rw e
asked_max (suc a) (suc b) (Some t) = let e : max (suc a) (suc b) ≡ suc (max a b) = omega arith in rw e (omega arith)

cond_max : (x : Bool) (a b : ℕ) → cond x 0 (max a b) ≡ max (cond x 0 a) (cond x 0 b)
cond_max true a b = omega arith
cond_max false a b = refl

module _ (k : ℕ) (time : Times) (j : ℕ) (small : k ≤ 256) where
  -- what the edge asks
  abbrev one : Edge → ℕ
  one e = cond (eqb e.to j && not (eqb e.from j)) (after k e (time e.from)) 0

  abbrev single : Edge → ℕ → ℕ
  single e q = cond (eqb q j) 0 (asked (cond (eqb e.from q && eqb e.to j) (lifted k e) 0) (time q))

  lifted_asks : (e : Edge) → e.distance ≤ 7 → (o : Option ℕ) → asked (lifted k e) o ≡ after k e o
  lifted_asks e near None = none (lifted k e)
    where
      none : (w : ℕ) → asked w None ≡ 0
      none zero = refl
      none (suc w) = refl
  lifted_asks e near (Some t) =
      let loss = loss_fits e.distance k near small in
      some (lifted k e) (omega arith) ∙ (omega arith)
    where
      some : (w : ℕ) → 0 < w → asked w (Some t) ≡ (t + w) - 1793
      some zero h = absurd (omega arith)
      some (suc w) h = refl

  single_here : (e : Edge) → e.distance ≤ 7 → single e e.from ≡ one e
  single_here e near = elim (cases_eq e.from j) [
    | inl z ↦ elim (cases_Bool (eqb e.to j)) [
      | inl t ↦ rw (eq-eqb e.from e.from refl, eq-eqb e.from j z, t)
      | inr f ↦ rw (eq-eqb e.from e.from refl, eq-eqb e.from j z, f)
    ]
    | inr z ↦ elim (cases_Bool (eqb e.to j)) [
      | inl t ↦ rw (eq-eqb e.from e.from refl, ne_eqb e.from j z, t) (lifted_asks e near (time e.from))
      | inr f ↦ rw (eq-eqb e.from e.from refl, ne_eqb e.from j z, f)
    ]
  ]

  none_cond : (x : Bool) → ◌≡◌ {A = ℕ} (cond x 0 0) 0
  none_cond true = refl
  none_cond false = refl

  single_else : (e : Edge) (q : ℕ) → (e.from ≡ q → ⊥) → single e q ≡ 0
  single_else e q z = rw (ne_eqb e.from q z) (none_cond (eqb q j))

  -- the greatest of f below n
  abbrev peak : (ℕ → ℕ) → ℕ → ℕ
  peak f zero = 0
  peak f (suc q) = max (peak f q) (f q)

  peak_max : (f g h : ℕ → ℕ) → ((q : ℕ) → f q ≡ max (g q) (h q)) → (n : ℕ) → peak f n ≡ max (peak g n) (peak h n)
  peak_max f g h same zero = omega arith
  peak_max f g h same (suc n) = omega (arith, peak_max f g h same n, same n)

  peak_low : (e : Edge) (m : ℕ) → m ≤ e.from → peak (single e) m ≡ 0
  peak_low e zero h = refl
  peak_low e (suc m) h = omega (arith, peak_low e m (omega arith), single_else e m (omega arith))

  peak_one : (e : Edge) → e.distance ≤ 7 → (n : ℕ) → e.from < n → peak (single e) n ≡ one e
  peak_one e near zero h = absurd (omega arith)
  peak_one e near (suc n) h = elim (cases_eq e.from n) [
    | inl z ↦ omega (arith, peak_low e n (omega arith), ap (single e) z, single_here e near)
    | inr z ↦ omega (arith, peak_one e near n (omega arith), single_else e n z)
  ]

  abbrev with_weights : List Edge → ℕ → ℕ
  with_weights es q = cond (eqb q j) 0 (asked (weight k es q j) (time q))

  by_peak : (es : List Edge) (n : ℕ) → early_by (weight k es) time j n ≡ peak (with_weights es) n
  unfolding early_by
  by_peak es zero = refl
  by_peak es (suc n) = ap (λ x. max x (with_weights es n)) (by_peak es n)

  peak_zero : (n : ℕ) → peak (with_weights []) n ≡ 0
  unfolding weight
  peak_zero zero = refl
  peak_zero (suc n) = omega (arith, peak_zero n, none_cond (eqb n j))

  step_weights : (e : Edge) (es : List Edge) (q : ℕ) → with_weights (e ∷ es) q ≡ max (with_weights es q) (single e q)
  unfolding weight
  step_weights e es q = ap (cond (eqb q j) 0) (asked_max (weight k es q j) _ (time q)) ∙ cond_max (eqb q j) _ _

  peak_early : (es : List Edge) (n : ℕ) → AllByRecursion (EdgeFits n) es → peak (with_weights es) n ≡ early k time j es
  unfolding early
  peak_early [] n fits = peak_zero n
  peak_early (e ∷ es) n fits =
      omega (arith, peak_max (with_weights (e ∷ es)) (with_weights es) (single e) (step_weights e es) n, peak_early es n fits.1, peak_one e fits.0.distance n fits.0.from)

  pub early_weights : (es : List Edge) (n : ℕ) → AllByRecursion (EdgeFits n) es → early_by (weight k es) time j n ≡ early k time j es
  early_weights es n fits = by_peak es n ∙ peak_early es n fits

-- EDGES THAT ARE NOT MET
unmet_max : (a b : ℕ) (x y : Option ℕ) → unmet (max a b) x y ≡ (unmet a x y || unmet b x y)
unmet_max zero b x y = let e : max 0 b ≡ b = omega arith in rw e
unmet_max (suc a) zero x y = let e : max (suc a) 0 ≡ suc a = omega arith in rw e (sym (or_false (unmet (suc a) x y)))
  where
    or_false : (z : Bool) → (z || false) ≡ z
    or_false true = refl
    or_false false = refl
unmet_max (suc a) (suc b) None y = let e : max (suc a) (suc b) ≡ suc (max a b) = omega arith in rw e
unmet_max (suc a) (suc b) (Some s) None = let e : max (suc a) (suc b) ≡ suc (max a b) = omega arith in rw e
unmet_max (suc a) (suc b) (Some s) (Some t) =
    let e : max (suc a) (suc b) ≡ suc (max a b) = omega arith in
    rw e (elim (cases_lt (t + 1793) (s + suc a)) [
      | inl l ↦ rw (lt-ltb (t + 1793) (s + suc a) l, lt-ltb (t + 1793) (s + suc (max a b)) (omega arith))
      | inr g ↦ elim (cases_lt (t + 1793) (s + suc b)) [
        | inl l ↦ rw (le-ltb (t + 1793) (s + suc a) g, lt-ltb (t + 1793) (s + suc b) l, lt-ltb (t + 1793) (s + suc (max a b)) (omega arith))
        | inr h ↦ rw (le-ltb (t + 1793) (s + suc a) g, le-ltb (t + 1793) (s + suc b) h, le-ltb (t + 1793) (s + suc (max a b)) (omega arith))
      ]
    ])

same_ltb : (a b c d : ℕ) → (a < b → c < d) → (c < d → a < b) → ltb a b ≡ ltb c d
same_ltb a b c d f g = elim (cases_lt a b) [
  | inl l ↦ lt-ltb a b l ∙ sym (lt-ltb c d (f l))
  | inr h ↦ le-ltb a b h ∙ sym (elim (cases_lt c d) [ inl l ↦ absurd (omega (arith, g l)) | inr i ↦ le-ltb c d i ])
]

module _ (k : ℕ) (small : k ≤ 256) where
  lifted_late : (e : Edge) → e.distance ≤ 7 → (x y : Option ℕ) → unmet (lifted k e) x y ≡ late k e x y
  lifted_late e near x y =
      let loss = loss_fits e.distance k near small in
      go (lifted k e) x y refl (omega arith) loss
    where
      go : (w : ℕ) (x y : Option ℕ) → w ≡ lifted k e → 0 < w → e.distance * k ≤ 1792 → unmet w x y ≡ late k e x y
      go zero x y is h loss = absurd (omega arith)
      go (suc w) None y is h loss = refl
      go (suc w) (Some s) None is h loss = refl
      go (suc w) (Some s) (Some t) is h loss = same_ltb (t + 1793) (s + suc w) (t + e.distance * k) (s + e.delay) (λ l. omega arith) (λ l. omega arith)

  here_late : (c : Bool) (e : Edge) → e.distance ≤ 7 → (x y : Option ℕ) → unmet (cond c (lifted k e) 0) x y ≡ (c && late k e x y)
  here_late true e near x y = lifted_late e near x y
  here_late false e near x y = refl

  move_late : (e : Edge) (p q : ℕ) (time : Times) → (eqb e.from p && eqb e.to q) && late k e (time p) (time q) ≡ (eqb e.from p && eqb e.to q) && late k e (time e.from) (time e.to)
  move_late e p q time = elim (cases_eq e.from p) [
    | inl z ↦ elim (cases_eq e.to q) [
      | inl y ↦ rw (z, y)
      | inr n ↦ rw (eq-eqb e.from p z, ne_eqb e.to q n)
    ]
    | inr n ↦ rw (ne_eqb e.from p n)
  ]

  one_unmet : (e : Edge) → e.distance ≤ 7 → (time : Times) (p q : ℕ) →
      unmet (cond (eqb e.from p && eqb e.to q) (lifted k e) 0) (time p) (time q) ≡ (eqb e.from p && eqb e.to q) && late k e (time e.from) (time e.to)
  one_unmet e near time p q = here_late (eqb e.from p && eqb e.to q) e near (time p) (time q) ∙ move_late e p q time

  swap_and : (a b c d l : Bool) → ((a && b) && l) || ((c && d) && l) ≡ ((a && b) || (d && c)) && l
  swap_and true true true true true = refl
  swap_and true true true true false = refl
  swap_and true true true false true = refl
  swap_and true true true false false = refl
  swap_and true true false true true = refl
  swap_and true true false true false = refl
  swap_and true true false false true = refl
  swap_and true true false false false = refl
  swap_and true false true true true = refl
  swap_and true false true true false = refl
  swap_and true false true false true = refl
  swap_and true false true false false = refl
  swap_and true false false true true = refl
  swap_and true false false true false = refl
  swap_and true false false false true = refl
  swap_and true false false false false = refl
  swap_and false true true true true = refl
  swap_and false true true true false = refl
  swap_and false true true false true = refl
  swap_and false true true false false = refl
  swap_and false true false true true = refl
  swap_and false true false true false = refl
  swap_and false true false false true = refl
  swap_and false true false false false = refl
  swap_and false false true true true = refl
  swap_and false false true true false = refl
  swap_and false false true false true = refl
  swap_and false false true false false = refl
  swap_and false false false true true = refl
  swap_and false false false true false = refl
  swap_and false false false false true = refl
  swap_and false false false false false = refl

  middle : (a b c d : Bool) → (a || b) || (c || d) ≡ (b || d) || (a || c)
  middle true true true true = refl
  middle true true true false = refl
  middle true true false true = refl
  middle true true false false = refl
  middle true false true true = refl
  middle true false true false = refl
  middle true false false true = refl
  middle true false false false = refl
  middle false true true true = refl
  middle false true true false = refl
  middle false true false true = refl
  middle false true false false = refl
  middle false false true true = refl
  middle false false true false = refl
  middle false false false true = refl
  middle false false false false = refl

  pub torn_weights : (time : Times) (j : ℕ) (n : ℕ) (es : List Edge) → AllByRecursion (EdgeFits n) es → (q : ℕ) → torn_by (weight k es) time j q ≡ torn k time j es q
  unfolding torn weight
  torn_weights time j n [] fits q = refl
  torn_weights time j n (e ∷ es) fits q =
      let near : e.distance ≤ 7 = fits.0.distance in
      ap₂ (λ a b. a || b)
      (unmet_max (weight k es j q) _ (time j) (time q) ∙ ap (λ z. unmet (weight k es j q) (time j) (time q) || z) (one_unmet e near time j q))
      (unmet_max (weight k es q j) _ (time q) (time j) ∙ ap (λ z. unmet (weight k es q j) (time q) (time j) || z) (one_unmet e near time q j)) ∙
      (middle (unmet (weight k es j q) (time j) (time q)) _ (unmet (weight k es q j) (time q) (time j)) _ ∙
      ap₂ (λ a b. a || b)
      (swap_and (eqb e.from j) (eqb e.to q) (eqb e.from q) (eqb e.to j) (late k e (time e.from) (time e.to)))
      (torn_weights time j n es fits.1 q))

-- one more edge
weight_push : (k : ℕ) (es : List Edge) (e : Edge) (p q : ℕ) → weight k (es ++ e ∷ []) p q ≡ max (weight k es p q) (cond (eqb e.from p && eqb e.to q) (lifted k e) 0)
unfolding weight
weight_push k [] e p q = refl
weight_push k (x ∷ es) e p q = omega (arith, weight_push k es e p q)

pub weight_more : (k : ℕ) (es : List Edge) (i : ℕ) (d : Edge) (p q : ℕ) → i < length es →
    weight k (take (i + 1) es) p q ≡ max (weight k (take i es) p q) (cond (eqb (get_or es i d).from p && eqb (get_or es i d).to q) (lifted k (get_or es i d)) 0)
weight_more k es i d p q h = rw (take_more es i d h) (weight_push k (take i es) (get_or es i d) p q)

pub weight_none : (k p q : ℕ) → weight k [] p q ≡ 0
unfolding weight
weight_none k p q = refl
