-- At which distance two operations meet, from the memory rule. Nothing else rests on how `meets` is defined.
use Rattle.std.proofs.Common.{◌≡◌, ℕ, ◌+◌, ◌-◌, ◌*◌, ◌/◌, ◌%◌, ◌<◌, ◌≤◌, Bool, true, false, cond, not, ◌&&◌, ◌||◌, eqb, ltb, leb, Some, None, Option, sym, ap, ◌∙◌, inl, inr, mul-pos, mul-zero, arith}
use native.Mathlib.Nat.{div-add-mod, mul-div_cancel_left, mul-mod_right}
use Rattle.std.proofs.lemmas.Bool.{cases_eq, cases_lt, cases_Bool, and_parts, and_from, and_left, and_right, or_cases, or_left, or_right, eqb-true, eq-eqb, ne_eqb, lt-ltb, le-ltb, le-leb, lt-leb, ltb-true, leb-true, false≢true}
use Rattle.model.specs.Edges.{meets}
use Rattle.edge_laws.specs.Meeting.{whole_strides, to_later, to_earlier}

-- o is the one distance, up to 7, at which f is true.
pub record Only (f : ℕ → Bool) (o : Option ℕ) : Type 0 where
  pub there : (d : ℕ) → o ≡ Some d → f d ≡ true
  pub found : (d : ℕ) → f d ≡ true → o ≡ Some d
  pub near : (d : ℕ) → o ≡ Some d → d ≤ 7

some_not_none : {X : Type 0} (x : X) → None ≡ Some x → ⊥
some_not_none x e = let z : ◌≡◌ {A = ℕ} 0 1 = cc in omega arith

some_same : {X : Type 0} (x y : X) → Some x ≡ Some y → x ≡ y
some_same x y e = cc

module _ (s gap : ℕ) (pos : 0 < s) where
  strides_there : (d : ℕ) → whole_strides s gap ≡ Some d → (gap ≡ s * d) × (d ≤ 7)
  strides_there d e = elim (cases_Bool (eqb (gap % s) 0 && leb (gap / s) 7)) [
    | inl h ↦
        let parts = and_parts (eqb (gap % s) 0) (leb (gap / s) 7) h in
        let same : gap / s ≡ d = some_same _ _ (rw h at e) in
        (omega (arith, div-add-mod gap s, eqb-true _ _ parts.0, ap (λ z. s * z) same), omega (arith, leb-true _ _ parts.1))
    | inr h ↦ absurd (some_not_none d (rw h at e))
  ]

  strides_found : (d : ℕ) → gap ≡ s * d → d ≤ 7 → whole_strides s gap ≡ Some d
  strides_found d e l =
      let quotient : gap / s ≡ d = ap (λ z. z / s) e ∙ mul-div_cancel_left d pos in
      let rest : gap % s ≡ 0 = ap (λ z. z % s) e ∙ mul-mod_right s d in
      rw (and_from (eqb (gap % s) 0) (leb (gap / s) 7) (eq-eqb _ _ rest) (le-leb _ _ (omega arith))) (ap Some quotient)

pub only_same : (f g : ℕ → Bool) (o : Option ℕ) → ((d : ℕ) → g d ≡ f d) → Only f o → Only g o
only_same f g o e h = record {
  there = λ d q. e d ∙ h.there d q;
  found = λ d q. h.found d (sym (e d) ∙ q);
  near = h.near;
}

-- Equal strides above 0.
module _ (p q s a b : ℕ) (pos : 0 < s) (l : p < q) where
  abbrev on : ℕ → Bool
  on d = eqb a (b + s * d) && (leb d 7 && (ltb 0 d || ltb p q))

  abbrev off : ℕ → Bool
  off d = eqb b (a + s * d) && (leb d 7 && (ltb 0 d || ltb q p))

  on_parts : (d : ℕ) → cond (leb b a) (whole_strides s (a - b)) None ≡ Some d → (a ≡ b + s * d) × (d ≤ 7)
  on_parts d e = elim (cases_lt a b) [
    | inl h ↦ absurd (some_not_none d (rw (lt-leb b a h) at e))
    | inr h ↦ let x = strides_there s (a - b) pos d (rw (le-leb b a h) at e) in (omega (arith, x.0), x.1)
  ]

  later_near : Only on (cond (leb b a) (whole_strides s (a - b)) None)
  later_near = record {
    there = λ d e. and_from _ _ (eq-eqb a (b + s * d) (on_parts d e).0) (and_from _ _ (le-leb d 7 (on_parts d e).1) (or_right (ltb 0 d) (ltb p q) (lt-ltb p q l)));
    found = λ d h.
        let parts = and_parts (eqb a (b + s * d)) (leb d 7 && (ltb 0 d || ltb p q)) h in
        let same : a ≡ b + s * d = eqb-true a (b + s * d) parts.0 in
        let few : d ≤ 7 = leb-true d 7 (and_parts (leb d 7) (ltb 0 d || ltb p q) parts.1).0 in
        rw (le-leb b a (omega arith)) (strides_found s (a - b) pos d (omega arith) few);
    near = λ d e. (on_parts d e).1;
  }

  off_parts : (d : ℕ) → cond (leb b a) None (whole_strides s (b - a)) ≡ Some d → (b ≡ a + s * d) × (d ≤ 7) × (a < b)
  off_parts d e = elim (cases_lt a b) [
    | inr h ↦ absurd (some_not_none d (rw (le-leb b a h) at e))
    | inl h ↦ let x = strides_there s (b - a) pos d (rw (lt-leb b a h) at e) in (omega (arith, x.0), x.1, h)
  ]

  above : (d : ℕ) → b ≡ a + s * d → a < b → 0 < d
  above d e h = elim (cases_lt 0 d) [ inl y ↦ y | inr z ↦ let none : s * d ≡ 0 = ap (λ x. s * x) (omega arith) ∙ mul-zero s in absurd (omega arith) ]

  strictly : (d : ℕ) → b ≡ a + s * d → 0 < d → a < b
  strictly d e h = omega (arith, mul-pos pos h)

  earlier_near : Only off (cond (leb b a) None (whole_strides s (b - a)))
  earlier_near = record {
    there = λ d e. let x = off_parts d e in and_from _ _ (eq-eqb b (a + s * d) x.0) (and_from _ _ (le-leb d 7 x.1) (or_left (ltb 0 d) (ltb q p) (lt-ltb 0 d (above d x.0 x.2))));
    found = λ d h.
        let parts = and_parts (eqb b (a + s * d)) (leb d 7 && (ltb 0 d || ltb q p)) h in
        let same : b ≡ a + s * d = eqb-true b (a + s * d) parts.0 in
        let more = and_parts (leb d 7) (ltb 0 d || ltb q p) parts.1 in
        let few : d ≤ 7 = leb-true d 7 more.0 in
        let some : 0 < d = elim (or_cases (ltb 0 d) (ltb q p) more.1) [ inl y ↦ ltb-true 0 d y | inr y ↦ absurd (omega (arith, ltb-true q p y)) ] in
        let less : a < b = strictly d same some in
        rw (lt-leb b a less) (strides_found s (b - a) pos d (omega arith) few);
    near = λ d e. (off_parts d e).1;
  }

-- A test that holds at c alone, if w.
one_way : (w : Bool) (R : ℕ → Bool) (c : ℕ) → c ≤ 7 → R c ≡ true → ((d : ℕ) → R d ≡ true → d ≡ c) → Only (λ d. w && R d) (cond w (Some c) None)
one_way true R c n here only = record {
  there = λ d e. ap R (sym (some_same c d e)) ∙ here;
  found = λ d h. ap Some (sym (only d h));
  near = λ d e. omega (arith, some_same c d e);
}
one_way false R c n here only = record {
  there = λ d e. absurd (some_not_none d e);
  found = λ d h. absurd (false≢true h);
  near = λ d e. absurd (some_not_none d e);
}

module _ (p q : ℕ) (w : Bool) (l : p < q) where
  zero_on : Only (λ d. w && ((eqb d 0 && ltb p q) || (eqb d 1 && ltb q p))) (cond w (Some 0) None)
  zero_on = one_way w (λ d. (eqb d 0 && ltb p q) || (eqb d 1 && ltb q p)) 0 (omega arith) (or_left (ltb p q) false (lt-ltb p q l))
      (λ d h. elim (or_cases (eqb d 0 && ltb p q) (eqb d 1 && ltb q p) h) [
        | inl y ↦ eqb-true d 0 (and_parts (eqb d 0) (ltb p q) y).0
        | inr y ↦ absurd (omega (arith, ltb-true q p (and_parts (eqb d 1) (ltb q p) y).1))
      ])

  one_back : Only (λ d. w && ((eqb d 0 && ltb q p) || (eqb d 1 && ltb p q))) (cond w (Some 1) None)
  one_back = one_way w (λ d. (eqb d 0 && ltb q p) || (eqb d 1 && ltb p q)) 1 (omega arith) (lt-ltb p q l)
      (λ d h. elim (or_cases (eqb d 0 && ltb q p) (eqb d 1 && ltb p q) h) [
        | inl y ↦ absurd (omega (arith, ltb-true q p (and_parts (eqb d 0) (ltb q p) y).1))
        | inr y ↦ eqb-true d 1 (and_parts (eqb d 1) (ltb p q) y).0
      ])

eqb_swap : (m n : ℕ) → eqb m n ≡ eqb n m
eqb_swap m n = elim (cases_eq m n) [
  | inl e ↦ eq-eqb m n e ∙ sym (eq-eqb n m (sym e))
  | inr z ↦ ne_eqb m n z ∙ sym (ne_eqb n m (λ e. z (sym e)))
]

untested : (s t : ℕ) → (s ≡ t → s ≡ 0) → (eqb s t && ltb 0 s) ≡ false
untested s t z = elim (cases_eq s t) [
  | inl e ↦ and_right (eqb s t) (ltb 0 s) (le-ltb 0 s (omega (arith, z e)))
  | inr n ↦ and_left (eqb s t) (ltb 0 s) (ne_eqb s t n)
]

module _ (p s a q t b d : ℕ) where
  meets_near : s ≡ t → 0 < s → meets p s a q t b d ≡ (eqb a (b + s * d) && (leb d 7 && (ltb 0 d || ltb p q)))
  unfolding meets
  meets_near e pos = rw (eq-eqb s t e, lt-ltb 0 s pos)

  meets_far : (s ≡ t → s ≡ 0) → meets p s a q t b d ≡ ((not (eqb s t) || eqb a b) && ((eqb d 0 && ltb p q) || (eqb d 1 && ltb q p)))
  unfolding meets
  meets_far z = rw (untested s t z)

module _ (p s a q t b : ℕ) (l : p < q) where
  abbrev open' : Bool
  open' = not (eqb s t) || eqb a b

  later_far : (s ≡ t → s ≡ 0) → Only (λ d. meets p s a q t b d) (to_later s a t b)
  later_far z = rw (untested s t z) (only_same _ (λ d. meets p s a q t b d) (cond open' (Some 0) None) (λ d. meets_far p s a q t b d z) (zero_on p q open' l))

  pub later_only : Only (λ d. meets p s a q t b d) (to_later s a t b)
  later_only = elim (cases_eq s t) [
    | inl e ↦ elim (cases_lt 0 s) [
      | inl pos ↦ rw (eq-eqb s t e, lt-ltb 0 s pos)
          (only_same (on p q s a b pos l) (λ d. meets p s a q t b d) (cond (leb b a) (whole_strides s (a - b)) None) (λ d. meets_near p s a q t b d e pos) (later_near p q s a b pos l))
      | inr z ↦ later_far (λ _. omega arith)
    ]
    | inr n ↦ later_far (λ e. absurd (n e))
  ]

  earlier_far : (s ≡ t → s ≡ 0) → Only (λ d. meets q t b p s a d) (to_earlier s a t b)
  earlier_far z = rw (untested s t z) (only_same _ (λ d. meets q t b p s a d) (cond open' (Some 1) None)
      (λ d. meets_far q t b p s a d (λ e. e ∙ z (sym e)) ∙ ap (λ x. (not x || eqb b a) && ((eqb d 0 && ltb q p) || (eqb d 1 && ltb p q))) (eqb_swap t s)
      ∙ ap (λ x. (not (eqb s t) || x) && ((eqb d 0 && ltb q p) || (eqb d 1 && ltb p q))) (eqb_swap b a))
      (one_back p q open' l))

  pub earlier_only : Only (λ d. meets q t b p s a d) (to_earlier s a t b)
  earlier_only = elim (cases_eq s t) [
    | inl e ↦ elim (cases_lt 0 s) [
      | inl pos ↦ rw (eq-eqb s t e, lt-ltb 0 s pos)
          (only_same (off p q s a b pos l) (λ d. meets q t b p s a d) (cond (leb b a) None (whole_strides s (b - a)))
          (λ d. meets_near q t b p s a d (sym e) (omega arith) ∙ ap (λ x. eqb b (a + x * d) && (leb d 7 && (ltb 0 d || ltb q p))) (sym e)) (earlier_near p q s a b pos l))
      | inr z ↦ earlier_far (λ _. omega arith)
    ]
    | inr n ↦ earlier_far (λ e. absurd (n e))
  ]
