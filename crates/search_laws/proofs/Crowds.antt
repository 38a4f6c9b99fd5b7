-- What the counts answer is what the definition asks.
use Rattle.std.proofs.Common.{◌≡◌, ℕ, zero, suc, ◌+◌, ◌%◌, ◌<◌, ◌≤◌, Bool, true, false, cond, not, ◌&&◌, eqb, ltb, Some, None, sym, refl, ap, ◌∙◌, inl, inr, mod-lt, add-one, arith}
use Rattle.std.proofs.lemmas.Bool.{cases_eq, cases_lt, cases_Bool, eq-eqb, ne_eqb, lt-ltb, le-ltb, ltb-true, and_parts, and_from, and_left, and_right, or_left, or_right, or_from, or_cases, both_ways}
use Rattle.model.specs.Loop.{Hardware}
use Rattle.model.specs.Schedule.{uses}
use Rattle.model.specs.Search.{some_below, Times, put, without, uses_of, overfull, fits, crowded}
use Rattle.graph_laws.proofs.Total.{total_longer}
use Rattle.search_laws.specs.Bounded.{Roomy}
use Rattle.search_laws.specs.Counts.{over, over_in, Tied, Held, Room}
use Rattle.search_laws.proofs.Rows.{rows_then}
use Rattle.search_laws.proofs.Ties.{in_row_same, in_row_put, at_class}

abbrev hit : ℕ → ℕ → ℕ → ℕ → ℕ
hit k t r b = cond (eqb ((t + b) % k) r) 1 0

pub uses_more : (k t b r : ℕ) → uses k t (b + 1) r ≡ uses k t b r + hit k t r b
uses_more k t b r = rw add-one

-- the row of cycle b of `busy` has a use after the first b cycles
pub one_left : (k t b row : ℕ) → row ≡ (t + b) % k → (busy : ℕ) → b < busy → uses k t b row + 1 ≤ uses k t busy row
one_left k t b row er busy h =
    let one : hit k t row b ≡ 1 = rw (eq-eqb ((t + b) % k) row (sym er)) in
    omega (arith, uses_more k t b row, total_longer (hit k t row) (b + 1) busy (omega arith))

pub some_more : (p : ℕ → Bool) (n : ℕ) → p n ≡ false → some_below p n ≡ false → some_below p (n + 1) ≡ false
some_more p n e h = rw add-one (or_from _ _ e h)

pub some_found : (p : ℕ → Bool) (n m : ℕ) → p n ≡ true → n < m → true ≡ some_below p m
some_found p n zero e h = absurd (omega arith)
some_found p n (suc m) e h = elim (cases_eq n m) [
  | inl z ↦ sym (or_left _ _ (rw z at e))
  | inr z ↦ sym (or_right _ _ (sym (some_found p n m e (omega arith))))
]

pub bool_iff : (a b : Bool) → (a ≡ true → b ≡ true) → (b ≡ true → a ≡ true) → a ≡ b
bool_iff a b f g = elim (cases_Bool a) [
  | inl e ↦ e ∙ sym (f e)
  | inr e ↦ elim (cases_Bool b) [ inl z ↦ g z ∙ sym z | inr z ↦ e ∙ sym z ]
]

pub some_which : (p : ℕ → Bool) (n : ℕ) → some_below p n ≡ true → (r : ℕ) × (r < n) × (p r ≡ true)
some_which p zero h = absurd (both_ways false refl h)
some_which p (suc n) h = elim (or_cases _ _ h) [
  | inl e ↦ (n, omega arith, e)
  | inr e ↦ let w = some_which p n e in (w.0, omega (arith, w.1), w.2)
]

none_below : (p : ℕ → Bool) (n : ℕ) → ((r : ℕ) → p r ≡ false) → some_below p n ≡ false
none_below p zero h = refl
none_below p (suc n) h = or_from _ _ (h n) (none_below p n h)

-- a use in a row is one of the cycles
pub uses_hit : (k t busy r : ℕ) → 0 < uses k t busy r → (b : ℕ) × (b < busy) × ((t + b) % k ≡ r)
uses_hit k t zero r h = absurd (omega arith)
uses_hit k t (suc b) r h = elim (cases_eq ((t + b) % k) r) [
  | inl e ↦ (b, omega arith, e)
  | inr n ↦
      let before : 0 < uses k t b r + 0 = rw (ne_eqb _ _ n) at h in
      let w = uses_hit k t b r (omega arith) in
      (w.0, omega (arith, w.1), w.2)
]

hit_uses : (k t busy b : ℕ) → b < busy → 0 < uses k t busy ((t + b) % k)
hit_uses k t busy b h = omega (arith, one_left k t b ((t + b) % k) refl busy h)

uses_out : (k t busy r : ℕ) → 0 < k → k ≤ r → uses k t busy r ≡ 0
uses_out k t busy r pos h = elim (cases_lt 0 (uses k t busy r)) [
  | inl l ↦ let b = uses_hit k t busy r l in absurd (omega (arith, mod-lt (t + b.0) pos, b.2))
  | inr g ↦ omega arith
]

-- rows by their cycles
rows_cycles : (k s busy : ℕ) (p q : ℕ → Bool) → 0 < k → ((r : ℕ) → r < k → p r ≡ q r) →
    some_below (λ r. p r && ltb 0 (uses k s busy r)) k ≡ some_below (λ b. q ((s + b) % k)) busy
rows_cycles k s busy p q pos same = bool_iff _ _
    (λ h.
    let w = some_which _ k h in
    let both = and_parts _ _ w.2 in
    let c = uses_hit k s busy w.0 (ltb-true _ _ both.1) in
    sym (some_found (λ b. q ((s + b) % k)) c.0 busy (ap q c.2 ∙ (sym (same w.0 w.1) ∙ both.0)) c.1))
    (λ h.
    let w = some_which (λ b. q ((s + b) % k)) busy h in
    let inside = mod-lt (s + w.0) pos in
    sym (some_found (λ r. p r && ltb 0 (uses k s busy r)) ((s + w.0) % k) k
    (and_from _ _ (same _ inside ∙ w.2) (lt-ltb _ _ (hit_uses k s busy w.0 w.1))) inside))

module _ (hw : Hardware) (n k : ℕ) (time : Times) (counts : ℕ → ℕ → ℕ) (pos : 0 < k) (small : k ≤ 256) (tied : Tied hw n k time counts)
    (j t : ℕ) (c8 : hw.class j < 8) where
  over_is : (r : ℕ) → r < k → overfull hw k time n j t r ≡ over k (hw.class j) t (hw.busy j) counts hw.units r
  unfolding overfull
  over_is r h = ap (λ x. ltb (hw.units (hw.class j)) (x + uses k t (hw.busy j) r)) (sym (tied.cells (hw.class j) r c8 (omega arith)))

  some_over : Held counts hw.units → some_below (overfull hw k time n j t) k ≡ over_in k (hw.class j) t (hw.busy j) counts hw.units t (hw.busy j)
  some_over held =
      bool_iff _ _
      (λ h.
      let w = some_which _ k h in
      let full = sym (over_is w.0 w.1) ∙ w.2 in
      let used : 0 < uses k t (hw.busy j) w.0 = omega (arith, ltb-true _ _ full, held (hw.class j) w.0 c8 (omega (arith, w.1))) in
      let b = uses_hit k t (hw.busy j) w.0 used in
      sym (some_found (λ b. over k (hw.class j) t (hw.busy j) counts hw.units ((t + b) % k)) b.0 (hw.busy j) (ap (over k (hw.class j) t (hw.busy j) counts hw.units) b.2 ∙ full) b.1))
      (λ h.
      let w = some_which (λ b. over k (hw.class j) t (hw.busy j) counts hw.units ((t + b) % k)) (hw.busy j) h in
      let inside = mod-lt (t + w.0) pos in
      sym (some_found (overfull hw k time n j t) ((t + w.0) % k) k (over_is _ inside ∙ w.2) inside))

  pub fits_is : Held counts hw.units → fits hw k time n j t ≡ not (over_in k (hw.class j) t (hw.busy j) counts hw.units t (hw.busy j))
  fits_is held = ap not (some_over held)

  module _ (q : ℕ) where
    pub other_class : (hw.class q ≡ hw.class j → ⊥) → false ≡ crowded hw k time n j t q
    unfolding crowded
    other_class z = sym (and_left _ _ (ne_eqb _ _ z))

    pub not_there : time q ≡ None → false ≡ crowded hw k time n j t q
    unfolding crowded
    not_there none = sym (and_right _ _ (none_below _ k (λ r. and_right _ _ (le-ltb 0 (uses_of hw k q (time q) r) (no_uses r)))))
      where
        no_uses : (r : ℕ) → uses_of hw k q (time q) r ≤ 0
        no_uses r = rw none (omega arith)

    pub there : (s : ℕ) → hw.class q ≡ hw.class j → time q ≡ Some s → over_in k (hw.class j) t (hw.busy j) counts hw.units s (hw.busy q) ≡ crowded hw k time n j t q
    unfolding crowded
    there s e at =
        sym (rw (eq-eqb (hw.class q) (hw.class j) e, at) (rows_cycles k s (hw.busy q) (overfull hw k time n j t) (over k (hw.class j) t (hw.busy j) counts hw.units) pos over_is))

  -- there is room for the newcomer beside those that it does not crowd out
  pub room_then : (time' : Times) (counts' : ℕ → ℕ → ℕ) → j < n → Roomy hw n k → Held counts hw.units → Tied hw n k time' counts' → Held counts' hw.units →
      ((q : ℕ) → time' q ≡ without (crowded hw k time n j t) time q) → time' j ≡ None → Room k (hw.class j) t (hw.busy j) counts' hw.units
  room_then time' counts' below roomy held tied' held' same none r hr = elim (cases_lt r k) [
    | inl l ↦ omega (
      arith,
      tied'.cells (hw.class j) r c8 hr,
      in_row_put hw k time' n (hw.class j) r j t below none,
      at_class (hw.class j) (uses k t (hw.busy j) r),
      in_row_same hw k (put j t time') (put j t (without (crowded hw k time n j t) time)) n (hw.class j) r (λ q. ap (λ o. cond (eqb q j) (Some t) o) (same q)),
      rows_then hw k time n j t (roomy j below) (hw.class j) r l (omega (arith, tied.cells (hw.class j) r c8 hr, held (hw.class j) r c8 hr)),
    )
    | inr g ↦ omega (arith, uses_out k t (hw.busy j) r pos g, held' (hw.class j) r c8 hr)
  ]

-- no cycle of an operation is in an overfull row
pub room_not_over : (k c t busy : ℕ) (counts : ℕ → ℕ → ℕ) (units : ℕ → ℕ) → 0 < k → k ≤ 256 → Room k c t busy counts units → over_in k c t busy counts units t busy ≡ false
room_not_over k c t busy counts units pos small room = none_below _ busy (λ b. le-ltb _ _ (room ((t + b) % k) (omega (arith, mod-lt (t + b) pos))))
