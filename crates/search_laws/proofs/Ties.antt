-- The counts stay those of the placed operations.
use Rattle.std.proofs.Common.{◌≡◌, ℕ, zero, suc, ◌+◌, ◌<◌, ◌≤◌, Bool, true, false, cond, eqb, ltb, List, get_or, Some, None, sym, refl, ap, ◌∙◌, inl, inr, arith}
use Rattle.std.proofs.lemmas.Bool.{cases_eq, cases_lt, eq-eqb, ne_eqb, lt-ltb, le-ltb}
use Rattle.model.specs.Loop.{Hardware, total}
use Rattle.model.specs.Schedule.{uses}
use Rattle.model.specs.Search.{Times, put, uses_of, in_row}
use Rattle.graph_laws.proofs.Total.{total_same, total_add, total_zero}
use Rattle.search_laws.specs.Counts.{Added, Has, Tied, Less, Put, Unmarked}

total_one : (j x n : ℕ) → j < n → total (λ q. cond (eqb q j) x 0) n ≡ x
total_one j x zero h = absurd (omega arith)
total_one j x (suc n) h = elim (cases_eq n j) [
  | inl e ↦ rw (eq-eqb n j e) (omega (arith, none n (omega arith)))
  | inr z ↦ rw (ne_eqb n j z) (omega (arith, total_one j x n (omega arith)))
]
  where
    none : (m : ℕ) → m ≤ j → total (λ q. cond (eqb q j) x 0) m ≡ 0
    none zero h = refl
    none (suc m) h = rw (ne_eqb m j (omega arith)) (omega (arith, none m (omega arith)))

nothing : (b : Bool) → ◌≡◌ {A = ℕ} (cond b 0 0) 0
nothing true = refl
nothing false = refl

cond_flip : (a b x : ℕ) → cond (eqb a b) x 0 ≡ cond (eqb b a) x 0
cond_flip a b x = elim (cases_eq a b) [
  | inl e ↦ rw (eq-eqb a b e, eq-eqb b a (sym e))
  | inr n ↦ rw (ne_eqb a b n, ne_eqb b a (λ z. n (sym z)))
]

pub at_class : (c x : ℕ) → cond (eqb c c) x 0 ≡ x
at_class c x = rw (eq-eqb c c refl)

module _ (hw : Hardware) (k : ℕ) where
  abbrev part : Times → ℕ → ℕ → ℕ → ℕ
  part time u r j = cond (eqb (hw.class j) u) (uses_of hw k j (time j) r) 0

  pub in_row_same : (S T : Times) (n u r : ℕ) → ((q : ℕ) → S q ≡ T q) → in_row hw k S n u r ≡ in_row hw k T n u r
  unfolding in_row
  in_row_same S T n u r same = total_same (part S u r) (part T u r) n (λ q _. ap (λ o. cond (eqb (hw.class q) u) (uses_of hw k q o r) 0) (same q))

  pub in_row_put : (T : Times) (n u r j t : ℕ) → j < n → T j ≡ None →
      in_row hw k (put j t T) n u r ≡ in_row hw k T n u r + cond (eqb (hw.class j) u) (uses k t (hw.busy j) r) 0
  unfolding in_row
  in_row_put T n u r j t h none =
      let x : ℕ = cond (eqb (hw.class j) u) (uses k t (hw.busy j) r) 0 in
      omega (
        arith,
        total_same (part (put j t T) u r) (λ q. part T u r q + cond (eqb q j) x 0) n each,
        total_add (part T u r) (λ q. cond (eqb q j) x 0) n,
        total_one j x n h,
      )
    where
      each : (q : ℕ) → q < n → part (put j t T) u r q ≡ part T u r q + cond (eqb q j) (cond (eqb (hw.class j) u) (uses k t (hw.busy j) r) 0) 0
      each q _ = elim (cases_eq q j) [
        | inl e ↦ rw (e, eq-eqb j j refl, none) (omega (arith, nothing (eqb (hw.class j) u)))
        | inr z ↦ rw (ne_eqb q j z) (omega arith)
      ]

  none_in_row : (n u r : ℕ) → in_row hw k (λ _. None) n u r ≡ 0
  unfolding in_row
  none_in_row n u r = total_same _ (λ _. 0) n (λ j _. nothing (eqb (hw.class j) u)) ∙ total_zero n

  -- nothing is placed
  pub tied_none : (n : ℕ) (time : Times) (counts : ℕ → ℕ → ℕ) → ((q : ℕ) → time q ≡ None) → ((u r : ℕ) → u < 8 → r < 256 → counts u r ≡ 0) → Tied hw n k time counts
  tied_none n time counts none empty = record {
    cells = λ u r hu hr. empty u r hu hr ∙ sym (in_row_same time (λ _. None) n u r none ∙ none_in_row n u r);
    beyond = λ q _. none q;
  }

module _ (hw : Hardware) (n k j t : ℕ) (below : j < n) where
  pub tied_put : (before now : Times) (counts counts' : ℕ → ℕ → ℕ) → before j ≡ None → Put j t before now →
      Added k (hw.class j) t (hw.busy j) counts counts' → Tied hw n k before counts → Tied hw n k now counts'
  tied_put before now counts counts' none is added tied = record {
    cells = λ u r hu hr. omega (
      arith,
      tied.cells u r hu hr,
      added u r hu hr,
      cond_flip u (hw.class j) (uses k t (hw.busy j) r),
      in_row_put hw k before n u r j t below none,
      in_row_same hw k now (put j t before) n u r is,
    );
    beyond = λ q h. is q ∙ rw (ne_eqb q j (omega arith)) (tied.beyond q h);
  }

  module _ (before : Times) (placed : before j ≡ Some t) where
    abbrev less : Times
    less q = cond (eqb q j) None (before q)

    back : (q : ℕ) → before q ≡ put j t less q
    back q = elim (cases_eq q j) [
      | inl e ↦ rw (e, eq-eqb j j refl) placed
      | inr n ↦ rw (ne_eqb q j n)
    ]

    less_none : less j ≡ None
    less_none = rw (eq-eqb j j refl)

    in_row_less : (u r : ℕ) → in_row hw k before n u r ≡ in_row hw k less n u r + cond (eqb (hw.class j) u) (uses k t (hw.busy j) r) 0
    in_row_less u r = in_row_same hw k before (put j t less) n u r back ∙ in_row_put hw k less n u r j t below less_none

    pub tied_less : (now : Times) (counts counts' : ℕ → ℕ → ℕ) → Less j before now →
        Added k (hw.class j) t (hw.busy j) counts' counts → Tied hw n k before counts → Tied hw n k now counts'
    tied_less now counts counts' is added tied = record {
      cells = λ u r hu hr. omega (
        arith,
        tied.cells u r hu hr,
        added u r hu hr,
        cond_flip u (hw.class j) (uses k t (hw.busy j) r),
        in_row_less u r,
        in_row_same hw k now less n u r is,
      );
      beyond = λ q h. is q ∙ rw (ne_eqb q j (omega arith)) (tied.beyond q h);
    }

    pub has_uses : (counts : ℕ → ℕ → ℕ) → Tied hw n k before counts → hw.class j < 8 → Has k (hw.class j) t (hw.busy j) counts
    has_uses counts tied hc r hr = omega (arith, tied.cells (hw.class j) r hc hr, in_row_less (hw.class j) r, at_class (hw.class j) (uses k t (hw.busy j) r))

-- where nothing was placed
pub less_nothing : (j : ℕ) (time : Times) → time j ≡ None → Less j time time
less_nothing j time none q = elim (cases_eq q j) [ inl e ↦ rw (e, eq-eqb j j refl) none | inr n ↦ rw (ne_eqb q j n) ]

same_test : (q n : ℕ) → (q ≡ n → ⊥) → ltb q n ≡ ltb q (n + 1)
same_test q n z = elim (cases_lt q n) [
  | inl l ↦ lt-ltb q n l ∙ sym (lt-ltb q (n + 1) (omega arith))
  | inr g ↦ le-ltb q n g ∙ sym (le-ltb q (n + 1) (omega arith))
]

-- one more operation looked at
pub unmarked_more : (marks : List Bool) (n : ℕ) (first now next : Times) → get_or marks n false ≡ true → Unmarked marks n first now → Less n now next → Unmarked marks (n + 1) first next
unmarked_more marks n first now next mark inv less q = elim (cases_eq q n) [
  | inl e ↦ less q ∙ rw (e, eq-eqb n n refl, lt-ltb n (n + 1) (omega arith), mark)
  | inr z ↦ less q ∙ rw (ne_eqb q n z, inv q, same_test q n z)
]

pub unmarked_same : (marks : List Bool) (n : ℕ) (first now : Times) → get_or marks n false ≡ false → Unmarked marks n first now → Unmarked marks (n + 1) first now
unmarked_same marks n first now mark inv q = elim (cases_eq q n) [
  | inl e ↦ inv q ∙ rw (e, le-ltb n n (omega arith), lt-ltb n (n + 1) (omega arith), mark)
  | inr z ↦ inv q ∙ rw (same_test q n z)
]

pub unmarked_none : (marks : List Bool) (time : Times) → Unmarked marks 0 time time
unmarked_none marks time q = sym (rw (le-ltb q 0 (omega arith)))
