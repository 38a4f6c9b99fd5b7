-- The weights as the edges are gone through.
use Rattle.std.proofs.Common.{◌≡◌, ℕ, zero, suc, ◌+◌, ◌<◌, ◌≤◌, max, false, cond, ◌&&◌, eqb, List, [], length, get_or, take, set, replicate, ◌⊎◌, sym, refl, ap, ap₂, ◌∙◌, inl, inr, arith}
use Rattle.std.proofs.lemmas.List.{get_or-set_same, get_or-set_other, length-set}
use Rattle.std.proofs.lemmas.Bool.{cases_eq, eq-eqb, ne_eqb, and_from, and_left, and_right}
use Rattle.graph_laws.proofs.Steps.{zeros}
use Rattle.model.specs.declared.Edge.{Edge}
use Rattle.search_laws.specs.Weights.{lifted, weight}
use Rattle.search_laws.proofs.Weights.{weight_more, weight_none}

abbrev pub entry : List (List ℕ) → ℕ → ℕ → ℕ
entry between p q = get_or (get_or between p []) q 0

-- What stands between the operations is the weights of these edges.
pub record Woven (k : ℕ) (es : List Edge) (between : List (List ℕ)) : Type 0 where
  pub are : (p q : ℕ) → p < 32 → q < 32 → entry between p q ≡ weight k es p q
  pub low : (p q : ℕ) → entry between p q ≤ 1801
  pub rows : length between ≡ 32
  pub columns : (p : ℕ) → p < 32 → length (get_or between p []) ≡ 32

no_entries : (n m p q : ℕ) → entry (replicate n (replicate m 0)) p q ≡ 0
no_entries zero m p q = refl
no_entries (suc n) m zero q = zeros m q
no_entries (suc n) m (suc p) q = no_entries n m p q

all_long : (n m p : ℕ) → p < n → length {A = ℕ} (get_or (replicate n (replicate m 0)) p []) ≡ m
all_long zero m p h = absurd (omega arith)
all_long (suc n) m zero h = long m
  where
    long : (j : ℕ) → length (replicate {A = ℕ} j 0) ≡ j
    long zero = refl
    long (suc j) = ap suc (long j)
all_long (suc n) m (suc p) h = all_long n m p (omega arith)

pub woven_none : (k : ℕ) → Woven k [] (replicate 32 (replicate 32 0))
woven_none k = record {
  are = λ p q hp hq. no_entries 32 32 p q ∙ sym (weight_none k p q);
  low = λ p q. omega (arith, no_entries 32 32 p q);
  rows = refl;
  columns = λ p h. all_long 32 32 p h;
}

-- one more edge weighed
module _ (k : ℕ) (es : List Edge) (i : ℕ) (d : Edge) (between : List (List ℕ)) (h : i < length es) (so_far : Woven k (take i es) between)
    (from : (get_or es i d).from < 32) (to : (get_or es i d).to < 32) (v w : ℕ) (w_is : w ≡ lifted k (get_or es i d)) (w_low : w ≤ 1801) where
  abbrev e : Edge
  e = get_or es i d

  abbrev after_it : List (List ℕ)
  after_it = set between e.from (set (get_or between e.from []) e.to v)

  at_it : entry after_it e.from e.to ≡ v
  at_it = rw (get_or-set_same between e.from (set (get_or between e.from []) e.to v) [] (omega (arith, so_far.rows))) (get_or-set_same (get_or between e.from []) e.to v 0 (omega (arith, so_far.columns e.from from)))

  in_row : (q : ℕ) → (q ≡ e.to → ⊥) → entry after_it e.from q ≡ entry between e.from q
  in_row q n = rw (get_or-set_same between e.from (set (get_or between e.from []) e.to v) [] (omega (arith, so_far.rows))) (get_or-set_other (get_or between e.from []) e.to q v 0 n)

  elsewhere : (p q : ℕ) → (p ≡ e.from → ⊥) → entry after_it p q ≡ entry between p q
  elsewhere p q n = ap (λ xs. get_or xs q 0) (get_or-set_other between e.from p (set (get_or between e.from []) e.to v) [] n)

  -- the entry of the edge, or another
  which : (p q : ℕ) → ((p ≡ e.from) × (q ≡ e.to) × (entry after_it p q ≡ v)) ⊎ (((eqb e.from p && eqb e.to q) ≡ false) × (entry after_it p q ≡ entry between p q))
  which p q = elim (cases_eq p e.from) [
    | inr n ↦ inr (and_left _ _ (ne_eqb e.from p (λ z. n (sym z))), elsewhere p q n)
    | inl a ↦ elim (cases_eq q e.to) [
      | inr n ↦ inr (and_right _ _ (ne_eqb e.to q (λ z. n (sym z))), ap (λ x. entry after_it x q) a ∙ (in_row q n ∙ ap (λ x. entry between x q) (sym a)))
      | inl b ↦ inl (a, b, ap₂ (entry after_it) a b ∙ at_it)
    ]
  ]

  pub woven_more : v ≡ max (entry between e.from e.to) w → Woven k (take (i + 1) es) after_it
  woven_more v_is = record {
    are = λ p q hp hq.
        let more = weight_more k es i d p q h in
        elim (which p q) [
          | inl x ↦
              let one : cond (eqb e.from p && eqb e.to q) (lifted k e) 0 ≡ lifted k e = rw (and_from _ _ (eq-eqb e.from p (sym x.0)) (eq-eqb e.to q (sym x.1))) in
              let old : entry between e.from e.to ≡ weight k (take i es) p q = ap₂ (entry between) (sym x.0) (sym x.1) ∙ so_far.are p q hp hq in
              omega (arith, x.2)
          | inr x ↦
              let none : cond (eqb e.from p && eqb e.to q) (lifted k e) 0 ≡ 0 = rw x.0 in
              omega (arith, x.1, so_far.are p q hp hq)
        ];
    low = λ p q. elim (which p q) [
      | inl x ↦ omega (arith, x.2, so_far.low e.from e.to)
      | inr x ↦ omega (arith, x.1, so_far.low p q)
    ];
    rows = length-set between e.from (set (get_or between e.from []) e.to v) ∙ so_far.rows;
    columns = λ p hp. elim (cases_eq p e.from) [
      | inl a ↦
          ap (λ x. length (get_or after_it x [])) a ∙ (ap length (get_or-set_same between e.from (set (get_or between e.from []) e.to v) [] (omega (arith, so_far.rows))) ∙
          (length-set (get_or between e.from []) e.to v ∙ so_far.columns e.from from))
      | inr n ↦ ap length (get_or-set_other between e.from p (set (get_or between e.from []) e.to v) [] n) ∙ so_far.columns p hp
    ];
  }
