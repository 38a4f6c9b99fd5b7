-- One unit more is taken.
use Rattle.std.proofs.Common.{◌≡◌, ℕ, ◌+◌, ◌%◌, ◌<◌, ◌≤◌, cond, ◌&&◌, true, false, Bool, eqb, leb, List, [], length, get_or, set, sym, refl, ap, ◌∙◌, inl, inr, arith}
use Rattle.std.proofs.lemmas.List.{get_or-set_same, get_or-set_other}
use Rattle.std.proofs.lemmas.Bool.{cases_eq, cases_lt, eq-eqb, ne_eqb, le-leb, le-ltb, lt-ltb}
use Rattle.engine_laws.specs.Tracks.{use_for}

abbrev pub cell : List (List ℕ) → ℕ → ℕ → ℕ
cell rows u x = get_or (get_or rows x []) u 0

and_false : (a b : Bool) → (let none : ℕ = 0 in cond (a && (b && false)) 1 none ≡ none)
and_false true true = refl
and_false true false = refl
and_false false b = refl

-- behind its cycles a unit is not used
pub used_none : (u y c class n : ℕ) → c + n ≤ y → use_for u y c class n ≡ 0
used_none u y c class n h = rw (le-ltb y (c + n) h) (and_false (eqb class u) (leb c y))

used_within : (y c class n : ℕ) → c ≤ y → y < c + n → use_for class y c class n ≡ 1
used_within y c class n h k = rw (eq-eqb class class refl, le-leb c y h, lt-ltb y (c + n) k) refl

used_other : (u y c class n : ℕ) → (u ≡ class → ⊥) → use_for u y c class n ≡ 0
used_other u y c class n z = rw (ne_eqb class u (λ e. z (sym e))) refl

module _ (rows before : List (List ℕ)) (row : List ℕ) (c n x m class : ℕ) (at : x ≡ c + n) (next : m ≡ n + 1) (few : class < 8) (soon : n < 8)
    (so_far : (u y : ℕ) → u < 8 → c ≤ y → y < c + 8 → cell rows u (y % 8) ≡ cell before u (y % 8) + use_for u y c class n) where
  -- what was counted in this cycle before
  pub room_for : cell rows class (x % 8) ≡ cell before class (x % 8)
  room_for = omega (arith, so_far class x few (omega arith) (omega arith), used_none class x c class n (omega arith))

  module _ (long : length rows ≡ 8) (one : get_or row class 0 ≡ cell rows class (x % 8) + 1) (others : (u : ℕ) → (u ≡ class → ⊥) → get_or row u 0 ≡ cell rows u (x % 8)) where
    here : (y : ℕ) → y ≡ x → (u : ℕ) → u < 8 → cell (set rows (x % 8) row) u (y % 8) ≡ cell before u (y % 8) + use_for u y c class m
    here y e u small =
        rw e (ap (λ r. get_or r u 0) (get_or-set_same rows (x % 8) row [] (omega arith)) ∙
        elim (cases_eq u class) [
          | inl same ↦ rw same (omega (arith, one, room_for, used_within x c class m (omega arith) (omega arith)))
          | inr z ↦ omega (arith, others u z, so_far u x small (omega arith) (omega arith), used_other u x c class n z, used_other u x c class m z)
        ])

    same_use : (u y : ℕ) → c ≤ y → (y ≡ x → ⊥) → use_for u y c class n ≡ use_for u y c class m
    same_use u y from apart = elim (cases_eq u class) [
      | inr z ↦ used_other u y c class n z ∙ sym (used_other u y c class m z)
      | inl e ↦ rw e (elim (cases_lt y x) [
        | inl h ↦ used_within y c class n from (omega arith) ∙ sym (used_within y c class m from (omega arith))
        | inr h ↦ used_none class y c class n (omega arith) ∙ sym (used_none class y c class m (omega arith))
      ])
    ]

    pub taken_more : (u y : ℕ) → u < 8 → c ≤ y → y < c + 8 → cell (set rows (x % 8) row) u (y % 8) ≡ cell before u (y % 8) + use_for u y c class m
    taken_more u y small from to = elim (cases_eq y x) [
      | inl e ↦ here y e u small
      | inr apart ↦
          let other : y % 8 ≡ x % 8 → ⊥ = λ same. omega arith in
          ap (λ r. get_or r u 0) (get_or-set_other rows (x % 8) (y % 8) row [] other) ∙ so_far u y small from to ∙
          ap (λ k. cell before u (y % 8) + k) (same_use u y from apart)
    ]
