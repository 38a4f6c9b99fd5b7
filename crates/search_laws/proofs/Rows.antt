-- Rows stay within the units.
use Rattle.std.proofs.Common.{◌≡◌, ℕ, zero, suc, ◌+◌, ◌*◌, ◌<◌, ◌≤◌, Bool, true, false, cond, eqb, None, Option, refl, inl, inr, arith}
use Rattle.std.proofs.lemmas.Bool.{cases_lt, cases_eq, cases_Bool, eq-eqb, ne_eqb, lt-ltb, ltb-false, or_left, or_right, and_from}
use Rattle.model.specs.Loop.{Hardware}
use Rattle.model.specs.Schedule.{uses}
use Rattle.graph_laws.proofs.Total.{total_le, total_add}
use Rattle.model.specs.Search.{some_below, Times, put, without, uses_of, in_row, overfull, crowded}
use Rattle.search_laws.proofs.Uses.{total_single, alone}

pub some_at : (p : ℕ → Bool) (n r : ℕ) → r < n → p r ≡ true → some_below p n ≡ true
some_at p zero r h e = absurd (omega arith)
some_at p (suc n) r h e = elim (cases_eq r n) [
  | inl z ↦ or_left _ _ (rw z at e)
  | inr z ↦ or_right _ _ (some_at p n r (omega arith) e)
]

module _ (hw : Hardware) (k : ℕ) where
  -- an operation that is removed has no uses
  fewer : (gone : Bool) (j r : ℕ) (o : Option ℕ) → uses_of hw k j (cond gone None o) r ≤ uses_of hw k j o r
  fewer true j r o = omega arith
  fewer false j r o = omega arith

  -- the part of operation j in a row of class u
  abbrev part : Times → ℕ → ℕ → ℕ → ℕ
  part time u r j = cond (eqb (hw.class j) u) (uses_of hw k j (time j) r) 0

  part_le : (b : Bool) (x y : ℕ) → x ≤ y → cond b x 0 ≤ cond b y 0
  part_le true x y h = h
  part_le false x y h = omega arith

  pub in_row_without : (gone : ℕ → Bool) (time : Times) (n u r : ℕ) → in_row hw k (without gone time) n u r ≤ in_row hw k time n u r
  unfolding in_row
  in_row_without gone time n u r = total_le (part (without gone time) u r) (part time u r) n (λ j _. part_le (eqb (hw.class j) u) _ _ (fewer (gone j) j r (time j)))

  module _ (time : Times) (n j t : ℕ) where
    abbrev then : Times
    then = put j t (without (crowded hw k time n j t) time)

    -- a row of another class
    elsewhere : (u r : ℕ) → (hw.class j ≡ u → ⊥) → in_row hw k then n u r ≤ in_row hw k time n u r
    unfolding in_row
    elsewhere u r other = total_le (part then u r) (part time u r) n each
      where
        each : (q : ℕ) → q < n → part then u r q ≤ part time u r q
        each q _ = elim (cases_eq q j) [
          | inl e ↦ rw (e, ne_eqb _ _ other) (omega arith)
          | inr z ↦ rw (ne_eqb q j z) (part_le (eqb (hw.class q) u) _ _ (fewer (crowded hw k time n j t q) q r (time q)))
        ]

    -- a row that is not overfull
    beside : (r : ℕ) → in_row hw k then n (hw.class j) r ≤ in_row hw k time n (hw.class j) r + uses k t (hw.busy j) r
    unfolding in_row
    beside r =
        let u : ℕ = hw.class j in
        let x : ℕ = uses k t (hw.busy j) r in
        omega (
          arith,
          total_le (part then u r) (λ q. part time u r q + cond (eqb q j) x 0) n each,
          total_add (part time u r) (λ q. cond (eqb q j) x 0) n,
          total_single j x n,
        )
      where
        each : (q : ℕ) → q < n → part then (hw.class j) r q ≤ part time (hw.class j) r q + cond (eqb q j) (uses k t (hw.busy j) r) 0
        each q _ = elim (cases_eq q j) [
          | inl e ↦ rw (e, eq-eqb j j refl, eq-eqb (hw.class j) (hw.class j) refl) (omega arith)
          | inr z ↦ rw (ne_eqb q j z) (omega (arith, part_le (eqb (hw.class q) (hw.class j)) _ _ (fewer (crowded hw k time n j t q) q r (time q))))
        ]

    gone : (r : ℕ) → r < k → overfull hw k time n j t r ≡ true → (q : ℕ) → hw.class q ≡ hw.class j → 0 < uses_of hw k q (time q) r → crowded hw k time n j t q ≡ true
    unfolding crowded
    gone r h full q same some = and_from _ _ (eq-eqb _ _ same) (some_at _ k r h (and_from _ _ full (lt-ltb _ _ some)))

    -- a row that is overfull is left to the newcomer
    cleared : (r : ℕ) → r < k → overfull hw k time n j t r ≡ true → in_row hw k then n (hw.class j) r ≤ uses k t (hw.busy j) r
    unfolding in_row
    cleared r h full =
        let x : ℕ = uses k t (hw.busy j) r in
        omega (arith, total_le (part then (hw.class j) r) (λ q. cond (eqb q j) x 0) n each, total_single j x n)
      where
        each : (q : ℕ) → q < n → part then (hw.class j) r q ≤ cond (eqb q j) (uses k t (hw.busy j) r) 0
        each q _ = elim (cases_eq q j) [
          | inl e ↦ rw (e, eq-eqb j j refl, eq-eqb (hw.class j) (hw.class j) refl) (omega arith)
          | inr z ↦ elim (cases_eq (hw.class q) (hw.class j)) [
            | inl c ↦ elim (cases_lt 0 (uses_of hw k q (time q) r)) [
              | inl l ↦ rw (ne_eqb q j z, eq-eqb _ _ c, gone r h full q c l) (omega arith)
              | inr g ↦ rw (ne_eqb q j z, eq-eqb _ _ c) (omega (arith, fewer (crowded hw k time n j t q) q r (time q)))
            ]
            | inr c ↦ rw (ne_eqb q j z, ne_eqb _ _ c) (omega arith)
          ]
        ]

    pub rows_then : hw.busy j ≤ k * hw.units (hw.class j) → (u r : ℕ) → r < k → in_row hw k time n u r ≤ hw.units u → in_row hw k then n u r ≤ hw.units u
    unfolding overfull
    rows_then room u r h before = elim (cases_eq (hw.class j) u) [
      | inr other ↦ omega (arith, elsewhere u r other)
      | inl same ↦ rw (← same) (elim (cases_Bool (overfull hw k time n j t r)) [
        | inl full ↦ omega (arith, cleared r h full, alone k t (hw.busy j) (hw.units (hw.class j)) r room)
        | inr fine ↦ omega (arith, beside r, ltb-false _ _ fine)
      ])
    ]
