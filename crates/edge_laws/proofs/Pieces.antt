-- The list piece by piece: what two lines add to it, and where a row begins.
use Rattle.std.proofs.Common.{◌≡◌, ℕ, zero, suc, ◌+◌, ◌<◌, ◌≤◌, Bool, true, false, cond, not, ◌&&◌, ◌||◌, List, [], ◌∷◌, ◌++◌, length, Some, None, Option, sym, refl, ap, ◌∙◌, inl, inr, arith}
use Rattle.std.proofs.lemmas.List.{append-nil, length-append}
use Rattle.std.proofs.lemmas.Bool.{cases_eq, cases_Bool, cases_order, lt-ltb, le-ltb, le-leb, lt-leb, false≢true}
use Rattle.model.specs.Loop.{Loop, op, in_memory, makes, stride_of, offset_of}
use Rattle.model.specs.declared.Edge.{Edge}
use Rattle.model.specs.Edges.{each, memory_delay, meets, joins, between}
use Rattle.edge_laws.specs.Meeting.{may_meet, distance_on, distance_back, edge_at, by_distance}
use Rattle.edge_laws.proofs.Meeting.{Only, only_same, later_only, earlier_only}

module _ {A : Type 0} (f : ℕ → List A) where
  -- pieces that are empty add nothing
  pub each_gap : (m n : ℕ) → m ≤ n → ((i : ℕ) → m ≤ i → i < n → f i ≡ []) → each f n ≡ each f m
  each_gap m zero l h = let z : 0 ≡ m = omega arith in ap (each f) z
  each_gap m (suc n) l h = elim (cases_eq m (suc n)) [
    | inl e ↦ ap (each f) (sym e)
    | inr z ↦ ap (λ r. each f n ++ r) (h n (omega arith) (omega arith)) ∙ append-nil (each f n) ∙ each_gap m n (omega arith) (λ i a b. h i a (omega arith))
  ]

  pub each_one : (i n : ℕ) → i < n → ((j : ℕ) → (j ≡ i → ⊥) → f j ≡ []) → each f n ≡ f i
  each_one i n l h =
      each_gap (suc i) n (omega arith) (λ j a b. h j (λ e. omega arith))
      ∙ ap (λ r. r ++ f i) (each_gap 0 i (omega arith) (λ j a b. h j (λ e. omega arith)))

  -- the first i pieces and the next are among the first n
  pub each_room : (i n : ℕ) → i < n → length (each f i) + length (f i) ≤ length (each f n)
  each_room i zero l = absurd (omega arith)
  each_room i (suc n) l = elim (cases_eq i n) [
    | inl e ↦ rw e (omega (arith, length-append (each f n) (f n)))
    | inr z ↦ omega (arith, length-append (each f n) (f n), each_room i n (omega arith))
  ]

only_when : (w : Bool) (f : ℕ → Bool) (o : Option ℕ) → Only f o → Only (λ d. w && f d) (cond w o None)
only_when true f o h = h
only_when false f o h = record {
  there = λ d e. let z : ◌≡◌ {A = ℕ} 0 1 = cc in absurd (omega arith);
  found = λ d e. absurd (false≢true e);
  near = λ d e. let z : ◌≡◌ {A = ℕ} 0 1 = cc in absurd (omega arith);
}

-- An edge from p to q at the one distance of f, and one back at the one distance of g.
module _ (f g : ℕ → Bool) (p q w v : ℕ) where
  abbrev first : ℕ → Edge
  first d = record { from = p; to = q; delay = w; distance = d }

  abbrev second : ℕ → Edge
  second d = record { from = q; to = p; delay = v; distance = d }

  abbrev piece : ℕ → List Edge
  piece d = cond (f d) (first d ∷ []) [] ++ cond (g d) (second d ∷ []) []

  module _ (o r : Option ℕ) (F : Only f o) (G : Only g r) where
    off_f : (d : ℕ) → (o ≡ Some d → ⊥) → f d ≡ false
    off_f d n = elim (cases_Bool (f d)) [ inl y ↦ absurd (n (F.found d y)) | inr y ↦ y ]

    off_g : (d : ℕ) → (r ≡ Some d → ⊥) → g d ≡ false
    off_g d n = elim (cases_Bool (g d)) [ inl y ↦ absurd (n (G.found d y)) | inr y ↦ y ]

    neither : (d : ℕ) → (o ≡ Some d → ⊥) → (r ≡ Some d → ⊥) → piece d ≡ []
    neither d n m = rw (off_f d n, off_g d m)

    only_first : (d : ℕ) → o ≡ Some d → (r ≡ Some d → ⊥) → piece d ≡ first d ∷ []
    only_first d e m = rw (F.there d e, off_g d m)

    only_second : (d : ℕ) → (o ≡ Some d → ⊥) → r ≡ Some d → piece d ≡ second d ∷ []
    only_second d n e = rw (off_f d n, G.there d e)

    both_here : (d : ℕ) → o ≡ Some d → r ≡ Some d → piece d ≡ first d ∷ second d ∷ []
    both_here d e m = rw (F.there d e, G.there d m)

  none_none : Only f None → Only g None → each piece 8 ≡ []
  none_none F G = each_gap piece 0 8 (omega arith) (λ i a b. neither None None F G i (differ i) (differ i))
    where
      differ : (i : ℕ) → None ≡ Some i → ⊥
      differ i e = let z : ◌≡◌ {A = ℕ} 0 1 = cc in omega arith

  other : (d i : ℕ) → (i ≡ d → ⊥) → Some d ≡ Some i → ⊥
  other d i n e = n (cc)

  no_one : (i : ℕ) → None ≡ Some i → ⊥
  no_one i e = let z : ◌≡◌ {A = ℕ} 0 1 = cc in omega arith

  some_none : (d : ℕ) → Only f (Some d) → Only g None → each piece 8 ≡ first d ∷ []
  some_none d F G = each_one piece d 8 (omega (arith, F.near d refl)) (λ i n. neither (Some d) None F G i (other d i n) (no_one i)) ∙ only_first (Some d) None F G d refl (no_one d)

  none_some : (e : ℕ) → Only f None → Only g (Some e) → each piece 8 ≡ second e ∷ []
  none_some e F G = each_one piece e 8 (omega (arith, G.near e refl)) (λ i n. neither None (Some e) F G i (no_one i) (other e i n)) ∙ only_second None (Some e) F G e (no_one e) refl

  -- two pieces that are not empty
  module _ (i j : ℕ) (l : i < j) (k : j < 8) (h : (m : ℕ) → (m ≡ i → ⊥) → (m ≡ j → ⊥) → piece m ≡ []) where
    each_two : each piece 8 ≡ piece i ++ piece j
    each_two =
        each_gap piece (suc j) 8 (omega arith) (λ m a b. h m (λ e. omega arith) (λ e. omega arith))
        ∙ ap (λ x. x ++ piece j) (each_gap piece (suc i) j (omega arith) (λ m a b. h m (λ e. omega arith) (λ e. omega arith))
        ∙ ap (λ x. x ++ piece i) (each_gap piece 0 i (omega arith) (λ m a b. h m (λ e. omega arith) (λ e. omega arith))))

  some_some : (d e : ℕ) → Only f (Some d) → Only g (Some e) → each piece 8 ≡ by_distance (Some (first d)) (Some (second e))
  some_some d e F G = elim (cases_order d e) [
    | inl same ↦
        each_one piece d 8 (omega (arith, F.near d refl)) (λ i n. quiet i n (λ x. n (omega arith)))
        ∙ both_here (Some d) (Some e) F G d refl (ap Some (sym same)) ∙ ap (λ x. first d ∷ second x ∷ []) same
        ∙ sym (rw (le-leb d e (omega arith)))
    | inr (inl less) ↦
        each_two d e less (omega (arith, G.near e refl)) quiet
        ∙ ap (λ x. x ++ piece e) (only_first (Some d) (Some e) F G d refl (other e d (λ x. omega arith)))
        ∙ ap (λ x. first d ∷ x) (only_second (Some d) (Some e) F G e (other d e (λ x. omega arith)) refl)
        ∙ sym (rw (le-leb d e (omega arith)))
    | inr (inr more) ↦
        each_two e d more (omega (arith, F.near d refl)) (λ i n m. quiet i m n)
        ∙ ap (λ x. x ++ piece d) (only_second (Some d) (Some e) F G e (other d e (λ x. omega arith)) refl)
        ∙ ap (λ x. second e ∷ x) (only_first (Some d) (Some e) F G d refl (other e d (λ x. omega arith)))
        ∙ sym (rw (lt-leb d e more))
  ]
    where
      quiet : (i : ℕ) → (i ≡ d → ⊥) → (i ≡ e → ⊥) → piece i ≡ []
      quiet i n m = neither (Some d) (Some e) F G i (other d i n) (other e i m)

  each_way : (o r : Option ℕ) → Only f o → Only g r → each piece 8 ≡ by_distance (edge_at p q w o) (edge_at q p v r)
  each_way None None F G = none_none F G
  each_way None (Some e) F G = none_some e F G
  each_way (Some d) None F G = some_none d F G
  each_way (Some d) (Some e) F G = some_some d e F G

regroup : (x y z m : Bool) → ((x && y) && (z && m)) ≡ (((x && y) && z) && m)
regroup true true z m = refl
regroup true false z m = refl
regroup false y z m = refl

regroup_turned : (x y u v m : Bool) → ((y && x) && ((v || u) && m)) ≡ (((x && y) && (u || v)) && m)
regroup_turned true true true true m = refl
regroup_turned true true true false m = refl
regroup_turned true true false true m = refl
regroup_turned true true false false m = refl
regroup_turned true false u v m = refl
regroup_turned false true u v m = refl
regroup_turned false false u v m = refl

-- Of two operations on lines p and q.
module _ (ops : Loop) (p q : ℕ) (l : p < q) where
  joins_on : (d : ℕ) → joins ops p q d ≡ (may_meet (op ops p) (op ops q) && meets p (stride_of (op ops p)) (offset_of (op ops p)) q (stride_of (op ops q)) (offset_of (op ops q)) d)
  unfolding joins
  joins_on d = regroup (in_memory (op ops p)) (in_memory (op ops q)) (not (makes (op ops p)) || not (makes (op ops q))) _

  joins_back : (d : ℕ) → joins ops q p d ≡ (may_meet (op ops p) (op ops q) && meets q (stride_of (op ops q)) (offset_of (op ops q)) p (stride_of (op ops p)) (offset_of (op ops p)) d)
  unfolding joins
  joins_back d = regroup_turned (in_memory (op ops p)) (in_memory (op ops q)) (not (makes (op ops p))) (not (makes (op ops q))) _

  on_only : Only (joins ops p q) (distance_on (op ops p) (op ops q))
  on_only = only_same _ _ _ joins_on (only_when (may_meet (op ops p) (op ops q)) _ _ (later_only p (stride_of (op ops p)) (offset_of (op ops p)) q (stride_of (op ops q)) (offset_of (op ops q)) l))

  back_only : Only (joins ops q p) (distance_back (op ops p) (op ops q))
  back_only = only_same _ _ _ joins_back (only_when (may_meet (op ops p) (op ops q)) _ _ (earlier_only p (stride_of (op ops p)) (offset_of (op ops p)) q (stride_of (op ops q)) (offset_of (op ops q)) l))

  -- what the two lines add
  pub pair_is : between ops p q ≡ by_distance (edge_at p q (memory_delay (op ops p)) (distance_on (op ops p) (op ops q))) (edge_at q p (memory_delay (op ops q)) (distance_back (op ops p) (op ops q)))
  pair_is = rw (lt-ltb p q l) (each_way (joins ops p q) (joins ops q p) p q (memory_delay (op ops p)) (memory_delay (op ops q)) (distance_on (op ops p) (op ops q)) (distance_back (op ops p) (op ops q)) on_only back_only)

-- The later lines of p begin behind p.
pub row_start : (ops : Loop) (p n : ℕ) → n ≤ p + 1 → each (between ops p) n ≡ []
row_start ops p n l = each_gap (between ops p) 0 n (omega arith) (λ q a b. rw (le-ltb p q (omega arith)))
