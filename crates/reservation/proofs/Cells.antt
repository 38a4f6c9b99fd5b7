-- What the counts say of uses.
use Rattle.std.proofs.Common.{◌≡◌, ℕ, zero, suc, ◌+◌, ◌-◌, ◌%◌, ◌<◌, ◌≤◌, Bool, true, false, cond, not, ◌||◌, eqb, ltb, leb, List, [], ◌∷◌, ◌++◌, length, get_or, set, replicate, None, Option, sym, refl, ap, subst, subst₂, ◌∙◌, inl, inr, add-one, add-zero, arith}
use Rattle.std.specs.List.{range_with_len, list_any, list_all, count_by}
use Rattle.std.proofs.lemmas.List.{get_or-set_same, get_or-set_other, get_or_past}
use Rattle.std.proofs.lemmas.List.Folds.{list_any-append}
use Rattle.std.proofs.lemmas.List.Sums.{sum_by-append}
use Rattle.std.proofs.lemmas.Bool.{cases_eq, cases_lt, eq-eqb, ne_eqb, lt-ltb, le-ltb, ltb-true, ltb-false, leb-true, le-leb, or_parts, and_from, and_parts, both_ways}
use Rattle.graph_laws.proofs.Steps.{zeros}
use Rattle.model.specs.Schedule.{uses}
use Rattle.model.specs.Search.{some_below}
use Rattle.reservation.specs.Cells.{cell, Within, bookable}
use Rattle.reservation.specs.Uses.{Repeated, Stepped, UsesAt, HasUses}
use Rattle.reservation.specs.Views.{count, fits_of}
use Rattle.reservation.specs.declared.uses.Uses.{Uses}
use Rattle.reservation.specs.declared.table.ReservationTable.{ReservationTable}
use Rattle.model.specs.declared.Timing.{Timing}
use Rattle.search_laws.proofs.Crowds.{one_left, uses_hit}
use Rattle.search_laws.proofs.Ties.{at_class}
use Rattle.search_laws.specs.Counts.{Added, Room, Has, over, over_in}

-- a range with one number more
pub range_more : (t n : ℕ) → range_with_len t (suc n) ≡ range_with_len t n ++ (t + n) ∷ []
range_more t zero = rw add-zero
range_more t (suc n) = ap (λ xs. t ∷ xs) (range_more (t + 1) n ∙ ap (λ x. range_with_len (t + 1) n ++ x ∷ []) (omega arith))

-- the cycles that fall into a row are its uses
pub counted : (k t n r : ℕ) → count_by (λ x. eqb (x % k) r) (range_with_len t n) ≡ uses k t n r
counted k t zero r = refl
counted k t (suc n) r =
    ap (count_by (λ x. eqb (x % k) r)) (range_more t n) ∙ omega (arith, sum_by-append (λ x. cond (eqb (x % k) r) 1 0) (range_with_len t n) ((t + n) ∷ []), counted k t n r)

or_turned : (a b : Bool) → (a || (b || false)) ≡ (b || a)
or_turned true true = refl
or_turned true false = refl
or_turned false true = refl
or_turned false false = refl

-- some of so many numbers from t on
pub some_of : (p : ℕ → Bool) (t n : ℕ) → list_any p (range_with_len t n) ≡ some_below (λ b. p (t + b)) n
some_of p t zero = refl
some_of p t (suc n) =
    ap (list_any p) (range_more t n) ∙ (list_any-append p (range_with_len t n) ((t + n) ∷ []) ∙
    (ap (λ x. x || (p (t + n) || false)) (some_of p t n) ∙ or_turned (some_below (λ b. p (t + b)) n) (p (t + n))))

all_of : (p : ℕ → Bool) (t n : ℕ) → list_all p (range_with_len t n) ≡ true → (b : ℕ) → b < n → p (t + b) ≡ true
all_of p t zero h b l = absurd (omega arith)
all_of p t (suc n) h b l =
    let both = and_parts _ _ h in
    elim (cases_eq b 0) [
      | inl e ↦ ap p (omega arith) ∙ both.0
      | inr z ↦ ap p (omega arith) ∙ all_of p (t + 1) n both.1 (b - 1) (omega arith)
    ]

all_from : (p : ℕ → Bool) (t n : ℕ) → ((x : ℕ) → p x ≡ true) → list_all p (range_with_len t n) ≡ true
all_from p t zero h = refl
all_from p t (suc n) h = and_from _ _ (h t) (all_from p (t + 1) n h)

-- one cycle more
pub one_more : (R : ℕ → ℕ → Type 0) (k t n m row v : ℕ) (xs ys : List ℕ) → row ≡ (t + n) % k → m ≡ suc n → row < length xs → R (get_or xs row 0) v → (r : ℕ) →
    Repeated R (uses k t n r) (get_or ys r 0) (get_or xs r 0) → Repeated R (uses k t m r) (get_or ys r 0) (get_or (set xs row v) r 0)
one_more R k t n m row v xs ys at next h step r so_far = elim (cases_eq r row) [
  | inl e ↦
      let more : uses k t m r ≡ suc (uses k t n r) = ap (λ x. uses k t x r) next ∙ rw (eq-eqb ((t + n) % k) r (sym at ∙ sym e), add-one) in
      let is : get_or (set xs row v) r 0 ≡ v = ap (λ x. get_or (set xs row v) x 0) e ∙ get_or-set_same xs row v 0 h in
      let here : R (get_or xs r 0) v = subst (λ x. R (get_or xs x 0) v) (sym e) step in
      subst₂ (λ x y. Repeated R x (get_or ys r 0) y) (sym more) (sym is) (get_or xs r 0, so_far, here)
  | inr z ↦
      let same : uses k t m r ≡ uses k t n r = ap (λ x. uses k t x r) next ∙ rw (ne_eqb ((t + n) % k) r (λ e. z (sym e ∙ sym at)), add-zero) in
      subst₂ (λ x y. Repeated R x (get_or ys r 0) y) (sym same) (sym (get_or-set_other xs row r v 0 z)) so_far
]

-- one class changed
pub class_changed : (R : ℕ → ℕ → Type 0) (f : ℕ → ℕ) (cs : List (List ℕ)) (c : ℕ) (xs : List ℕ) → c < length cs → ((r : ℕ) → r < 256 → Repeated R (f r) (cell cs c r) (get_or xs r 0)) →
    (u r : ℕ) → r < 256 → Repeated R (cond (eqb u c) (f r) 0) (cell cs u r) (cell (set cs c xs) u r)
class_changed R f cs c xs h steps u r hr = elim (cases_eq u c) [
  | inl e ↦ rw (e, eq-eqb c c refl, get_or-set_same cs c xs [] h) (steps r hr)
  | inr z ↦ rw (ne_eqb u c z) (ap (λ ys. get_or ys r 0) (get_or-set_other cs c u xs [] z))
]

-- steps by one
added_up : (R : ℕ → ℕ → Type 0) → ((m v : ℕ) → R m v → m < 255 → v ≡ m + 1) → (n a v : ℕ) → a + n ≤ 255 → Repeated R n a v → v ≡ a + n
added_up R up zero a v h e = omega arith
added_up R up (suc n) a v h s =
    let before = added_up R up n a s.0 (omega arith) s.1 in
    omega (arith, up s.0 v s.2 (omega arith))

taken_off : (R : ℕ → ℕ → Type 0) → ((m v : ℕ) → R m v → v ≡ m - 1) → (n a v : ℕ) → n ≤ a → Repeated R n a v → a ≡ v + n
taken_off R down zero a v h e = omega arith
taken_off R down (suc n) a v h s =
    let before = taken_off R down n a s.0 (omega arith) s.1 in
    omega (arith, down s.0 v s.2)

-- there is room for one more in the row of cycle b
pub can_add : (k c t b busy row : ℕ) (cs ds : List (List ℕ)) → row ≡ (t + b) % k → row < 256 → c < 8 → b < busy → Added k c t b (cell ds) (cell cs) →
    ((r : ℕ) → r < 256 → cell ds c r + uses k t busy r ≤ 255) → cell cs c row + 1 < 256
can_add k c t b busy row cs ds er hr hc h inv room =
    omega (arith, inv c row hc hr, at_class c (uses k t b row), room row hr, one_left k t b row er busy h)

pub can_take : (k c t b busy row : ℕ) (cs ds : List (List ℕ)) → row ≡ (t + b) % k → row < 256 → c < 8 → b < busy → Added k c t b (cell cs) (cell ds) →
    ((r : ℕ) → r < 256 → uses k t busy r ≤ cell ds c r) → 1 ≤ cell cs c row
can_take k c t b busy row cs ds er hr hc h inv room =
    omega (arith, inv c row hc hr, at_class c (uses k t b row), room row hr, one_left k t b row er busy h)

-- after an addition for which there was room
within_add : (k c t busy : ℕ) (before now : List (List ℕ)) (units : List ℕ) → Added k c t busy (cell before) (cell now) → Within before units → Room k c t busy (cell before) (λ u. get_or units u 0) → Within now units
within_add k c t busy before now units added held room u r hu hr = elim (cases_eq u c) [
  | inl e ↦ rw e (omega (arith, added c r (omega arith) hr, at_class c (uses k t busy r), room r hr))
  | inr n ↦
      let a : cell now u r ≡ cell before u r + 0 = rw (ne_eqb u c n) at (added u r hu hr) in
      omega (arith, held u r hu hr)
]

within_take : (k c t busy : ℕ) (before now : List (List ℕ)) (units : List ℕ) → Added k c t busy (cell now) (cell before) → Within before units → Within now units
within_take k c t busy before now units added held u r hu hr = omega (arith, added u r hu hr, held u r hu hr)

pub all_none : (n q : ℕ) → ◌≡◌ {A = Option ℕ} (get_or (replicate n None) q None) None
all_none zero q = refl
all_none (suc n) zero = refl
all_none (suc n) (suc q) = all_none n q

pub none_counted : (n m u r : ℕ) → cell (replicate n (replicate m 0)) u r ≡ 0
none_counted zero m u r = refl
none_counted (suc n) m zero r = zeros m r
none_counted (suc n) m (suc u) r = none_counted n m u r

-- one more count copied
pub copied_more : (counts units : List ℕ) (u : ℕ) → u < length counts → ((p : ℕ) → get_or counts p 0 ≡ cond (ltb p u) (get_or units p 0) 0) →
    (p : ℕ) → get_or (set counts u (get_or units u 0)) p 0 ≡ cond (ltb p (u + 1)) (get_or units p 0) 0
copied_more counts units u h inv p = elim (cases_eq p u) [
  | inl e ↦ rw (e, lt-ltb u (u + 1) (omega arith)) (get_or-set_same counts u _ 0 h)
  | inr n ↦ get_or-set_other counts u p _ 0 n ∙ (inv p ∙ ap (λ b. cond b (get_or units p 0) 0) (same_test p u n))
]
  where
    same_test : (q m : ℕ) → (q ≡ m → ⊥) → ltb q m ≡ ltb q (m + 1)
    same_test q m z = elim (cases_lt q m) [
      | inl l ↦ lt-ltb q m l ∙ sym (lt-ltb q (m + 1) (omega arith))
      | inr g ↦ le-ltb q m g ∙ sym (le-ltb q (m + 1) (omega arith))
    ]

pub copied_none : (n p : ℕ) (units : List ℕ) → get_or (replicate n 0) p 0 ≡ cond (ltb p 0) (get_or units p 0) 0
copied_none n p units = zeros n p ∙ sym (rw (le-ltb p 0 (omega arith)))

pub copied_all : (counts units : List ℕ) (u : ℕ) → length units ≤ u → ((p : ℕ) → get_or counts p 0 ≡ cond (ltb p u) (get_or units p 0) 0) → (p : ℕ) → get_or counts p 0 ≡ get_or units p 0
copied_all counts units u h inv p = elim (cases_lt p u) [
  | inl l ↦ inv p ∙ rw (lt-ltb p u l)
  | inr g ↦ inv p ∙ (rw (le-ltb p u g) (sym (get_or_past units p 0 (omega arith))))
]

pub few_units : (units : List ℕ) (u : ℕ) → length units ≤ u → ((p : ℕ) → p < u → get_or units p 0 ≤ 8) → (p : ℕ) → get_or units p 0 ≤ 8
few_units units u h inv p = elim (cases_lt p u) [ inl l ↦ inv p l | inr g ↦ omega (arith, get_or_past units p 0 (omega arith)) ]

-- what a table takes
bookable_parts : (c busy t : ℕ) → bookable c busy t ≡ true → (c < 8) × (busy ≤ 8) × (t ≤ 99999)
bookable_parts c busy t h =
    let a = and_parts _ _ h in
    let b = and_parts _ _ a.1 in
    (ltb-true _ _ a.0, leb-true _ _ b.0, leb-true _ _ b.1)

-- where no cycle of an operation is in a row that it would make overfull, each row has room for it
some_none : (p : ℕ → Bool) (n b : ℕ) → some_below p n ≡ false → b < n → p b ≡ false
some_none p zero b h l = absurd (omega arith)
some_none p (suc n) b h l = let both = or_parts _ _ h in elim (cases_eq b n) [ inl e ↦ rw e both.0 | inr z ↦ some_none p n b both.1 (omega arith) ]

room_from : (k c t busy : ℕ) (counts : List (List ℕ)) (units : List ℕ) → c < 8 → Within counts units → over_in k c t busy (cell counts) (λ u. get_or units u 0) t busy ≡ false →
    Room k c t busy (cell counts) (λ u. get_or units u 0)
room_from k c t busy counts units c8 held none r hr = elim (cases_lt 0 (uses k t busy r)) [
  | inl l ↦
      let b = uses_hit k t busy r l in
      let it = some_none (λ x. over k c t busy (cell counts) (λ u. get_or units u 0) ((t + x) % k)) busy b.0 none b.1 in
      omega (arith, ltb-false _ _ (rw b.2 at it))
  | inr g ↦ omega (arith, held c r c8 hr)
]

-- the rows of an operation's cycles are all its rows
pub has_from : (k c t n : ℕ) (counts : ℕ → ℕ → ℕ) → list_all (λ x. leb (uses k t n (x % k)) (counts c (x % k))) (range_with_len t n) ≡ true → Has k c t n counts
has_from k c t n counts each r hr = elim (cases_lt 0 (uses k t n r)) [
  | inl l ↦
      let b = uses_hit k t n r l in
      leb-true _ _ (rw b.2 at (all_of (λ x. leb (uses k t n (x % k)) (counts c (x % k))) t n each b.0 b.1))
  | inr g ↦ omega arith
]

pub has_each : (k c t n : ℕ) (counts : ℕ → ℕ → ℕ) → 0 < k → k ≤ 256 → Has k c t n counts → list_all (λ x. leb (uses k t n (x % k)) (counts c (x % k))) (range_with_len t n) ≡ true
has_each k c t n counts some most has = all_from _ t n (λ x. le-leb _ _ (has (x % k) (omega arith)))

not-true : (x : Bool) → not x ≡ true → x ≡ false
not-true true h = absurd (both_ways _ refl h)
not-true false h = refl

-- what holds of uses, by what they are made of
by_parts : (P : ℕ → ℕ → ℕ → ℕ → Type 0) (k c n t : ℕ) (u : Uses) → UsesAt k c n t u → P u.interval u.class u.time u.busy → P k c t n
by_parts P k c n t u at h = rw (← at.interval, ← at.class, ← at.time, ← at.busy) h

module _ (t : ReservationTable) (now : List (List ℕ)) (o : Timing) (time : ℕ) (u : Uses) (R : ℕ → ℕ → Type 0) (at : UsesAt t.interval o.class o.busy time u) (steps : Stepped R u (count t) (cell now)) where
  parts : (o.class < 8) × (o.busy ≤ 8) × (time ≤ 99999)
  parts = bookable_parts o.class o.busy time at.taken

  stepped : (d r : ℕ) → d < 8 → r < 256 → Repeated R (cond (eqb d o.class) (uses t.interval time o.busy r) 0) (count t d r) (cell now d r)
  stepped = by_parts (λ k c s n. (d r : ℕ) → d < 8 → r < 256 → Repeated R (cond (eqb d c) (uses k s n r) 0) (count t d r) (cell now d r)) _ _ _ _ u at steps

  -- booked where they fit
  pub booked : fits_of t o time ≡ true → ((m v : ℕ) → R m v → m < 255 → v ≡ m + 1) → Added t.interval o.class time o.busy (count t) (cell now) × Within now t.units
  booked fits up =
      let room = room_from t.interval o.class time o.busy t.rows.counts t.units parts.0 t.held (not-true _ (and_parts _ _ fits).1) in
      let added : Added t.interval o.class time o.busy (count t) (cell now) = λ d r hd hr. added_up R up _ _ _ (enough room d r hd hr) (stepped d r hd hr) in
      (added, within_add t.interval o.class time o.busy t.rows.counts now t.units added t.held room)
    where
      enough : Room t.interval o.class time o.busy (count t) (λ x. get_or t.units x 0) → (d r : ℕ) → d < 8 → r < 256 → count t d r + cond (eqb d o.class) (uses t.interval time o.busy r) 0 ≤ 255
      enough room d r hd hr = elim (cases_eq d o.class) [
        | inl e ↦ rw (e, eq-eqb o.class o.class refl) (omega (arith, room r hr, t.few o.class parts.0))
        | inr n ↦ rw (ne_eqb d o.class n) (omega (arith, t.held d r hd hr, t.few d hd))
      ]

  -- released where they are
  pub released : HasUses t u → ((m v : ℕ) → R m v → v ≡ m - 1) → Has t.interval o.class time o.busy (count t) × Added t.interval o.class time o.busy (cell now) (count t) × Within now t.units
  released has down =
      let there = by_parts (λ k c s n. Has k c s n (count t)) _ _ _ _ u at has in
      let added : Added t.interval o.class time o.busy (cell now) (count t) = λ d r hd hr. taken_off R down _ _ _ (enough there d r hr) (stepped d r hd hr) in
      (there, added, within_take t.interval o.class time o.busy t.rows.counts now t.units added t.held)
    where
      enough : Has t.interval o.class time o.busy (count t) → (d r : ℕ) → r < 256 → cond (eqb d o.class) (uses t.interval time o.busy r) 0 ≤ count t d r
      enough there d r hr = elim (cases_eq d o.class) [
        | inl e ↦ rw (e, eq-eqb o.class o.class refl) (there r hr)
        | inr n ↦ rw (ne_eqb d o.class n) (omega arith)
      ]
