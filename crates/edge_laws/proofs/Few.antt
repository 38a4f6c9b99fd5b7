-- At most 64 operand edges, and at most 240 memory edges.
use Rattle.std.proofs.Common.{◌≡◌, ℕ, zero, suc, ◌+◌, ◌-◌, ◌*◌, ◌<◌, ◌≤◌, true, false, ◌&&◌, leb, List, [], ◌∷◌, length, take, Some, None, count_by, Option, sym, ap, ◌∙◌, inl, inr, suc-mul, add-one, arith}
use Rattle.std.proofs.lemmas.List.{length-append, take_all}
use Rattle.std.proofs.lemmas.List.Sums.{count_by_more_yes, count_by_more_no}
use Rattle.std.proofs.lemmas.Bool.{cases_Bool, cases_eq, cases_lt, and_left, and_right, and_parts, leb-true, le-ltb}
use Rattle.model.specs.Loop.{Loop, Operand, literal, variable, Operation, load, store, binary, move, op, operands, in_memory, Hardware}
use Rattle.model.specs.declared.Edge.{Edge}
use Rattle.model.specs.Edges.{each, operand_edge, operand_edges, memory_delay, between, edges}
use Rattle.model.specs.Shapes.{between as inside}
use Rattle.model.specs.Soundness.{sound_loop, sound_below}
use Rattle.edge_laws.specs.Meeting.{distance_on, distance_back, edge_at, by_distance}
use Rattle.edge_laws.proofs.Pieces.{each_gap, pair_is, row_start}

each_short : {A : Type 0} (f : ℕ → List A) (c n : ℕ) → ((i : ℕ) → length (f i) ≤ c) → length (each f n) ≤ n * c
each_short f c zero h = omega arith
each_short f c (suc n) h = omega (arith, length-append (each f n) (f n), each_short f c n h, h n, suc-mul n c)

operand_short : (hw : Hardware) (q : ℕ) (a : Operand) → length (operand_edge hw q a) ≤ 1
operand_short hw q (literal z) = omega arith
operand_short hw q (variable p d) = omega arith

operands_short : (hw : Hardware) (q : ℕ) (l : List Operand) → length (operand_edges hw q l) ≤ length l
operands_short hw q [] = omega arith
operands_short hw q (a ∷ l) = omega (arith, length-append (operand_edge hw q a) (operand_edges hw q l), operand_short hw q a, operands_short hw q l)

two_operands : {A : Type 0} (o : Operation A) → length (operands o) ≤ 2
two_operands (load s a) = omega arith
two_operands (store x s a) = omega arith
two_operands (binary c x y) = omega arith
two_operands (move x) = omega arith

at_most_two : (a b : Option Edge) → length (by_distance a b) ≤ 2
at_most_two None None = omega arith
at_most_two None (Some b) = omega arith
at_most_two (Some a) None = omega arith
at_most_two (Some a) (Some b) = elim (cases_Bool (leb a.distance b.distance)) [ inl e ↦ rw e (omega arith) | inr e ↦ rw e (omega arith) ]

-- the most edges among j loads and stores that begin a row, of 16
abbrev pairs : ℕ → ℕ
pairs zero = 0
pairs (suc j) = pairs j + 2 * (15 - j)

pairs_up : (j k : ℕ) → j ≤ k → pairs j ≤ pairs k
pairs_up j zero l = let z : j ≡ 0 = omega arith in omega (arith, ap pairs z)
pairs_up j (suc k) l = elim (cases_eq j (suc k)) [ inl e ↦ omega (arith, ap pairs e) | inr n ↦ omega (arith, pairs_up j k (omega arith)) ]

module _ (ops : Loop) where
  -- the loads and stores among the first k operations
  memories : ℕ → ℕ
  memories k = count_by in_memory (take k ops)

  memory_more : (i : ℕ) → i < length ops → in_memory (op ops i) ≡ true → memories (suc i) ≡ memories i + 1
  unfolding memories op
  memory_more i l e = sym (ap (λ k. count_by in_memory (take k ops)) (add-one i)) ∙ count_by_more_yes in_memory ops i _ l e

  memory_same : (i : ℕ) → i < length ops → in_memory (op ops i) ≡ false → memories (suc i) ≡ memories i
  unfolding memories op
  memory_same i l e = sym (ap (λ k. count_by in_memory (take k ops)) (add-one i)) ∙ count_by_more_no in_memory ops i _ l e

  pair_short : (p q : ℕ) → p < q → length (between ops p q) ≤ 2
  pair_short p q l = rw (pair_is ops p q l) (at_most_two (edge_at p q (memory_delay (op ops p)) (distance_on (op ops p) (op ops q))) (edge_at q p (memory_delay (op ops q)) (distance_back (op ops p) (op ops q))))

  pair_none : (p q : ℕ) → p < q → (in_memory (op ops p) && in_memory (op ops q)) ≡ false → between ops p q ≡ []
  pair_none p q l e = pair_is ops p q l ∙ rw e

  row_none : (p k : ℕ) → in_memory (op ops p) ≡ false → each (between ops p) k ≡ []
  row_none p k e = each_gap (between ops p) 0 k (omega arith)
      (λ q a b. elim (cases_lt p q) [ inl l ↦ pair_none p q l (and_left (in_memory (op ops p)) (in_memory (op ops q)) e) | inr g ↦ rw (le-ltb p q g) ])

  row_short : (p k : ℕ) → p < k → k ≤ length ops → length (each (between ops p) k) + 2 * memories (suc p) ≤ 2 * memories k
  row_short p zero l h = absurd (omega arith)
  row_short p (suc k) l h = elim (cases_lt p k) [
    | inr g ↦
        let same : p ≡ k = omega arith in
        omega (arith, ap length (row_start ops p (suc k) (omega arith)), ap (λ i. memories (suc i)) same)
    | inl b ↦ elim (cases_Bool (in_memory (op ops k))) [
      | inl y ↦ omega (arith, length-append (each (between ops p) k) (between ops p k), row_short p k b (omega arith), pair_short p k b, memory_more k (omega arith) y)
      | inr y ↦ omega (
        arith,
        length-append (each (between ops p) k) (between ops p k),
        row_short p k b (omega arith),
        ap length (pair_none p k b (and_right (in_memory (op ops p)) (in_memory (op ops k)) y)),
        memory_same k (omega arith) y,
      )
    ]
  ]

  memories_up : (j k : ℕ) → j ≤ k → k ≤ length ops → memories j ≤ memories k
  memories_up j zero l h = let z : j ≡ 0 = omega arith in omega (arith, ap memories z)
  memories_up j (suc k) l h = elim (cases_eq j (suc k)) [
    | inl e ↦ omega (arith, ap memories e)
    | inr n ↦ elim (cases_Bool (in_memory (op ops k))) [
      | inl y ↦ omega (arith, memories_up j k (omega arith) (omega arith), memory_more k (omega arith) y)
      | inr y ↦ omega (arith, memories_up j k (omega arith) (omega arith), memory_same k (omega arith) y)
    ]
  ]

  abbrev row : ℕ → List Edge
  row p = each (λ q. between ops p q) (length ops)

  rows_short : (p : ℕ) → p ≤ length ops → memories (length ops) ≤ 16 → length (each row p) ≤ pairs (memories p)
  rows_short zero h few = omega arith
  rows_short (suc p) h few = elim (cases_Bool (in_memory (op ops p))) [
    | inl y ↦
        let one : memories (suc p) ≡ suc (memories p) = memory_more p (omega arith) y ∙ add-one (memories p) in
        omega (
          arith,
          length-append (each row p) (row p),
          rows_short p (omega arith) few,
          ap pairs one,
          row_short p (length ops) (omega arith) (omega arith),
          memories_up (suc p) (length ops) (omega arith) (omega arith),
        )
    | inr y ↦ omega (arith, length-append (each row p) (row p), rows_short p (omega arith) few, ap pairs (memory_same p (omega arith) y), ap length (row_none p (length ops) y))
  ]

  memory_few : count_by in_memory ops ≤ 16 → length (each row (length ops)) ≤ 240
  unfolding memories
  memory_few few =
      let all : memories (length ops) ≡ count_by in_memory ops = ap (count_by in_memory) (take_all (length ops) ops (omega arith)) in
      omega (arith, rows_short (length ops) (omega arith) (omega arith), pairs_up (memories (length ops)) 16 (omega arith))

  operand_few : (hw : Hardware) → length ops ≤ 32 → length (each (λ q. operand_edges hw q (operands (op ops q))) (length ops)) ≤ 64
  operand_few hw few = omega (arith, each_short (λ q. operand_edges hw q (operands (op ops q))) 2 (length ops) (λ q. omega (arith, operands_short hw q (operands (op ops q)), two_operands (op ops q))))

  pub edges_few : (hw : Hardware) → sound_loop ops ≡ true → length (edges ops hw) ≤ 304
  unfolding edges
  edges_few hw sound =
      let parts = and_parts (inside 1 32 (length ops)) (leb (count_by in_memory ops) 16 && sound_below ops (length ops)) sound in
      let few : length ops ≤ 32 = leb-true (length ops) 32 (and_parts (leb 1 (length ops)) (leb (length ops) 32) parts.0).1 in
      let memory : count_by in_memory ops ≤ 16 = leb-true (count_by in_memory ops) 16 (and_parts (leb (count_by in_memory ops) 16) (sound_below ops (length ops)) parts.1).0 in
      omega (arith, length-append (each (λ q. operand_edges hw q (operands (op ops q))) (length ops)) (each row (length ops)), operand_few hw few, memory_few memory)
