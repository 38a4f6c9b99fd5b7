-- The first operation that comes again along a walk.
use Rattle.std.proofs.Common.{◌≡◌, ℕ, zero, suc, ◌+◌, ◌-◌, ◌<◌, ◌≤◌, cond, eqb, List, [], ◌∷◌, ◌++◌, length, get_or, take, drop, sym, refl, ap, ◌∙◌, subst, inl, inr, arith}
use Rattle.std.proofs.lemmas.List.{take-append-drop, length-take-le, length-drop}
use Rattle.std.proofs.ByRecursion.{All-get_or}
use Rattle.std.proofs.lemmas.Bool.{cases_eq, eq-eqb, ne_eqb}
use Rattle.model.specs.declared.Edge.{Edge}
use Rattle.model.specs.Loop.{total}
use Rattle.model.specs.Walks.{edge, Walk, froms, Absent, Distinct, Within}
use Rattle.graph_laws.proofs.Total.{total_le, total_same, total_zero, total_swap}
use Rattle.graph_laws.proofs.Pigeons.{total_hit, total_ones}
use Rattle.graph_laws.proofs.Cut.{Cut}
use Rattle.graph_laws.specs.Trails.{standing, NewBefore, Repeats}

-- m different numbers below n: m is at most n
module _ (f : ℕ → ℕ) where
  once : (v m : ℕ) → ((a b : ℕ) → a < b → b < m → f a ≡ f b → ⊥) → total (λ a. cond (eqb (f a) v) 1 0) m ≤ 1
  once v zero new = omega arith
  once v (suc m) new = elim (cases_eq (f m) v) [
    | inl e ↦ rw (eq-eqb (f m) v e) (omega (
      arith,
      total_same (λ a. cond (eqb (f a) v) 1 0) (λ _. 0) m (λ a l. rw (ne_eqb (f a) v (λ z. new a m l (omega arith) (z ∙ sym e)))),
      total_zero m,
    ))
    | inr n ↦ rw (ne_eqb (f m) v n) (omega (arith, once v m (λ a b l h. new a b l (omega arith))))
  ]

  pub places : (m n : ℕ) → ((a : ℕ) → a < m → f a < n) → ((a b : ℕ) → a < b → b < m → f a ≡ f b → ⊥) → m ≤ n
  places m n below new = omega (
    arith,
    total_same (λ a. total (λ v. cond (eqb (f a) v) 1 0) n) (λ _. 1) m (λ a l. total_hit (f a) n (below a l)),
    total_swap (λ a v. cond (eqb (f a) v) 1 0) m n,
    total_le (λ v. total (λ a. cond (eqb (f a) v) 1 0) m) (λ _. 1) n (λ v _. once v m new),
    total_ones m,
    total_ones n,
  )

module _ (es : List Edge) where
  pub first_part : (u v : ℕ) (xs : List ℕ) (j : ℕ) → Walk es u xs v → j ≤ length xs → Walk es u (take j xs) (standing es u xs j)
  first_part u v xs zero w l = refl
  first_part u v [] (suc j) w l = absurd (omega arith)
  first_part u v (x ∷ xs) (suc j) w l = (w.0, w.1, first_part (edge es x).to v xs j w.2 (omega arith))

  pub last_part : (u v : ℕ) (xs : List ℕ) (j : ℕ) → Walk es u xs v → j ≤ length xs → Walk es (standing es u xs j) (drop j xs) v
  last_part u v xs zero w l = w
  last_part u v [] (suc j) w l = absurd (omega arith)
  last_part u v (x ∷ xs) (suc j) w l = last_part (edge es x).to v xs j w.2 (omega arith)

  pub next_edge : (u v : ℕ) (xs : List ℕ) (j : ℕ) → Walk es u xs v → j < length xs → (get_or xs j 0 < length es) × (standing es u xs (suc j) ≡ (edge es (get_or xs j 0)).to)
  next_edge u v [] j w l = absurd (omega arith)
  next_edge u v (x ∷ xs) zero w l = (w.0, refl)
  next_edge u v (x ∷ xs) (suc j) w l = next_edge (edge es x).to v xs j w.2 (omega arith)

  pub standing_within : (n : ℕ) → Within n es → (u v : ℕ) (xs : List ℕ) → u < n → Walk es u xs v → (j : ℕ) → standing es u xs j < n
  standing_within n inside u v xs h w zero = h
  standing_within n inside u v [] h w (suc j) = h
  standing_within n inside u v (x ∷ xs) h w (suc j) =
      let here : ((edge es x).from < n) × ((edge es x).to < n) = All-get_or (λ e. (e.from < n) × (e.to < n)) es x _ w.0 inside in
      standing_within n inside (edge es x).to v xs here.1 w.2 j

  pub standing_drop : (u : ℕ) (xs : List ℕ) (i a : ℕ) → i ≤ length xs → standing es (standing es u xs i) (drop i xs) a ≡ standing es u xs (i + a)
  standing_drop u xs zero a l = ap (standing es u xs) (omega arith)
  standing_drop u [] (suc i) a l = absurd (omega arith)
  standing_drop u (x ∷ xs) (suc i) a l =
      let e : suc i + a ≡ suc (i + a) = omega arith in
      standing_drop (edge es x).to xs i a (omega arith) ∙ ap (standing es u (x ∷ xs)) (sym e)

  pub standing_take : (u : ℕ) (xs : List ℕ) (j a : ℕ) → a ≤ j → standing es u (take j xs) a ≡ standing es u xs a
  standing_take u xs j zero l = refl
  standing_take u xs zero (suc a) l = absurd (omega arith)
  standing_take u [] (suc j) (suc a) l = refl
  standing_take u (x ∷ xs) (suc j) (suc a) l = standing_take (edge es x).to xs j a (omega arith)

  absent_by : (y u v : ℕ) (xs : List ℕ) → Walk es u xs v → ((b : ℕ) → b < length xs → y ≡ standing es u xs b → ⊥) → Absent y (froms es xs)
  absent_by y u v [] w h = tt
  absent_by y u v (x ∷ xs) w h = ((λ e. h 0 (omega arith) (e ∙ w.1)), absent_by y (edge es x).to v xs w.2 (λ b l e. h (suc b) (omega arith) e))

  pub distinct_by : (u v : ℕ) (xs : List ℕ) → Walk es u xs v → NewBefore es u xs (length xs) → Distinct (froms es xs)
  distinct_by u v [] w new = tt
  distinct_by u v (x ∷ xs) w new = (
    absent_by (edge es x).from (edge es x).to v xs w.2 (λ b l e. new 0 (suc b) (omega arith) (omega arith) (sym w.1 ∙ e)),
    distinct_by (edge es x).to v xs w.2 (λ a b l h e. new (suc a) (suc b) (omega arith) (omega arith) e),
  )

  unfoldable pub repeats_cut : (u v : ℕ) (xs : List ℕ) (i j : ℕ) → Walk es u xs v → Repeats es u xs i j → Cut es u v xs
  repeats_cut u v xs i j w r =
      let f : ℕ → ℕ = standing es u xs in
      let l : i ≤ length xs = omega (arith, r.order, r.inside) in
      let rest : List ℕ = drop i xs in
      let size : j - i ≤ length (drop i xs) = omega (arith, length-drop i xs, r.inside) in
      let back : standing es (standing es u xs i) (drop i xs) (j - i) ≡ standing es u xs i =
      let e : i + (j - i) ≡ j = omega (arith, r.order) in standing_drop u xs i (j - i) l ∙ ap (standing es u xs) e ∙ sym r.same in
      let w' : Walk es (standing es u xs i) (drop i xs) v = last_part u v xs i w l in
      let around : Walk es (standing es u xs i) (take (j - i) (drop i xs)) (standing es u xs i) =
      subst (λ y. Walk es (standing es u xs i) (take (j - i) (drop i xs)) y) back (first_part (standing es u xs i) v (drop i xs) (j - i) w' size) in
      let long : length (take (j - i) (drop i xs)) ≡ j - i = length-take-le (j - i) (drop i xs) size in
      let at : (a : ℕ) → a ≤ j - i → standing es (standing es u xs i) (take (j - i) (drop i xs)) a ≡ standing es u xs (i + a) =
      λ a h. standing_take (standing es u xs i) (drop i xs) (j - i) a h ∙ standing_drop u xs i a l in
      record {
        before = take i xs;
        round_trip = take (j - i) (drop i xs);
        after = drop (j - i) (drop i xs);
        at = standing es u xs i;
        there = first_part u v xs i w l;
        around = around;
        on = subst (λ y. Walk es y (drop (j - i) (drop i xs)) v) back (last_part (standing es u xs i) v (drop i xs) (j - i) w' size);
        split = sym (take-append-drop i xs) ∙ ap (λ z. take i xs ++ z) (sym (take-append-drop (j - i) (drop i xs)));
        some = omega (arith, long, r.order);
        simple = distinct_by (standing es u xs i) (standing es u xs i) (take (j - i) (drop i xs)) around (λ a b ab h e.
            r.new (i + a) (i + b) (omega arith) (omega (arith, long)) (sym (at a (omega (arith, long))) ∙ e ∙ at b (omega (arith, long))));
      }
