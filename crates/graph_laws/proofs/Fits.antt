-- The edges of a loop are within the limits of the code.
use Rattle.std.proofs.Common.{ℕ, zero, suc, ◌*◌, ◌<◌, ◌≤◌, ltb, List, [], ◌∷◌, ◌++◌, length, inl, inr, suc-mul, mul-le-mul, arith}
use Rattle.std.proofs.lemmas.List.{length-append}
use Rattle.std.proofs.lemmas.Bool.{cases_Bool}
use Rattle.model.specs.Loop.{Loop, Operand, literal, variable, Operation, load, store, binary, move, op, operands, Hardware, Named}
use Rattle.model.specs.Edges.{each, operand_edge, operand_edges, memory_edge, joins, between, edges}
use Rattle.model.specs.Limits.{EdgeFits}
use Rattle.model.specs.GraphLaws.{EdgesFit}
use Rattle.graph_laws.proofs.Listed.{OfOperand, each_operand, all_edges, delay_one}

each_short : {A : Type 0} (f : ℕ → List A) (c n : ℕ) → ((i : ℕ) → i < n → length (f i) ≤ c) → length (each f n) ≤ n * c
each_short f c zero h = omega arith
each_short f c (suc n) h = omega (arith, length-append (each f n) (f n), each_short f c n (λ i l. h i (omega arith)), h n (omega arith), suc-mul n c)

operand_short : (hw : Hardware) (q : ℕ) (a : Operand) → length (operand_edge hw q a) ≤ 1
operand_short hw q (literal z) = omega arith
operand_short hw q (variable p d) = omega arith

operands_short : (hw : Hardware) (q : ℕ) (l : List Operand) → length (operand_edges hw q l) ≤ length l
operands_short hw q [] = omega arith
operands_short hw q (a ∷ l) = omega (arith, length-append (operand_edge hw q a) (operand_edges hw q l), operand_short hw q a, operands_short hw q l)

two_operands : {A : Type 0} (o : Operation A) → length (operands o) ≤ 2
two_operands (load s a) = omega arith
two_operands (store x s a) = omega arith
two_operands (binary c x y) = omega arith
two_operands (move x) = omega arith

memory_short : (ops : Loop) (p q d : ℕ) → length (memory_edge ops p q d) ≤ 1
memory_short ops p q d = elim (cases_Bool (joins ops p q d)) [ inl e ↦ rw e (omega arith) | inr e ↦ rw e (omega arith) ]

between_short : (ops : Loop) (p q : ℕ) → length (between ops p q) ≤ 16
between_short ops p q = elim (cases_Bool (ltb p q)) [
  | inl e ↦ rw e (omega (
    arith,
    each_short (λ d. memory_edge ops p q d ++ memory_edge ops q p d) 2 8 (λ d _.
        omega (arith, length-append (memory_edge ops p q d) (memory_edge ops q p d), memory_short ops p q d, memory_short ops q p d)),
  ))
  | inr e ↦ rw e (omega arith)
]

edges_short : (ops : Loop) (hw : Hardware) → length ops ≤ 32 → length (edges ops hw) ≤ 65535
unfolding edges
edges_short ops hw few =
    let n : ℕ = length ops in
    let first = each_short (λ q. operand_edges hw q (operands (op ops q))) 2 (length ops) (λ q _. omega (arith, operands_short hw q (operands (op ops q)), two_operands (op ops q))) in
    let second = each_short (λ p. each (λ q. between ops p q) (length ops)) (length ops * 16) (length ops) (λ p _. each_short (λ q. between ops p q) 16 (length ops) (λ q _. between_short ops p q)) in
    let row : length ops * 16 ≤ 512 = omega arith in
    omega (
      arith,
      length-append (each (λ q. operand_edges hw q (operands (op ops q))) (length ops)) (each (λ p. each (λ q. between ops p q) (length ops)) (length ops)),
      first,
      second,
      mul-le-mul few row,
    )

pub edges_fit : EdgesFit
edges_fit ops hw formed = record {
  some = formed.some;
  few = formed.few;
  short = edges_short ops hw formed.few;
  each = all_edges (EdgeFits (length ops)) ops hw
      (λ q l. each_operand _ _ (operand q l) (op ops q) (formed.named q l))
      (λ p q d hp hq ne hd e. record { from = hp; to = hq; delay = omega (arith, delay_one (op ops p)); distance = omega arith });
}
  where
    operand : (q : ℕ) → q < length ops → (a : Operand) → Named ops q a → OfOperand (EdgeFits (length ops)) hw q a
    operand q l (literal z) h = tt
    operand q l (variable p d) h = record { from = h.0; to = l; delay = (formed.latencies p h.0).1; distance = h.3 }
