-- The order of memory: what edges, and at most eight stages, say of two instances that touch one cell.
use Rattle.std.proofs.Common.{◌≡◌, ℕ, ◌+◌, ◌-◌, ◌*◌, ◌<◌, ◌≤◌, true, false, ◌⊎◌, length, refl, ap, ◌∙◌, inl, inr, mul-le-mul_right, add-mul, arith}
use Rattle.std.specs.List.{AllByRecursion}
use Rattle.std.proofs.lemmas.Bool.{cases_eq, cases_lt}
use Rattle.model.specs.Loop.{Loop, Operand, literal, variable, Operation, load, store, binary, move, op, Stores, makes, in_memory, stride_of, offset_of, cell, Hardware}
use Rattle.model.specs.Edges.{EdgeMet, edges, memory_delay}
use Rattle.model.specs.Schedule.{Schedule, FewStages}
use Rattle.model.specs.MemoryOrder.{issue_cycle, Earlier, Touches, MemoryInOrder, Met, OperandsLanded}
use Rattle.model.specs.GraphLaws.{Follows}
use Rattle.graph_laws.proofs.Listed.{OfOperand, each_operand, operand_part, among_all, list_means_rules, delay_one}

-- A load or a store of a cell: by its stride and offset.
record Access {A : Type 0} (o : Operation A) (i x : ℕ) : Type 0 where
  memory : in_memory o ≡ true
  there : cell (stride_of o) (offset_of o) i ≡ x

access : {A : Type 0} (o : Operation A) (i x : ℕ) → Touches o i x → Access o i x
access (load s a) i x (inl e) = record { memory = refl; there = e }
access (load s a) i x (inr e) = absurd e
access (store v s a) i x (inl e) = absurd e
access (store v s a) i x (inr e) = record { memory = refl; there = e }
access (binary c v y) i x (inl e) = absurd e
access (binary c v y) i x (inr e) = absurd e
access (move v) i x (inl e) = absurd e
access (move v) i x (inr e) = absurd e

stores : {A : Type 0} (o : Operation A) (i x : ℕ) → Stores o i x → makes o ≡ false
stores (load s a) i x e = absurd e
stores (store v s a) i x e = refl
stores (binary c v y) i x e = absurd e
stores (move v) i x e = absurd e

module _ (ops : Loop) (hw : Hardware) (w : Schedule) (positive : 0 < w.interval) (few : FewStages ops w) (met : AllByRecursion (EdgeMet w.time w.interval) (edges ops hw)) where
  -- Two different operations, in iterations i and i + d, touch one cell.
  module _ (p i q m d x : ℕ) (hp : p < length ops) (hq : q < length ops) (n : p ≡ q → ⊥) (e : Earlier p i q m) (is : m ≡ i + d)
      (a : Access (op ops p) i x) (b : Access (op ops q) m x) (one_stores : (makes (op ops p) ≡ false) ⊎ (makes (op ops q) ≡ false)) where
    Ordered : Type 0
    Ordered = issue_cycle w p i + memory_delay (op ops p) ≤ issue_cycle w q m

    later : m * w.interval ≡ i * w.interval + d * w.interval
    later = ap (λ z. z * w.interval) is ∙ add-mul i d w.interval

    edge : (f : ℕ) → Follows p (stride_of (op ops p)) (offset_of (op ops p)) q (stride_of (op ops q)) (offset_of (op ops q)) f →
        w.time p + memory_delay (op ops p) ≤ w.time q + f * w.interval
    edge f between = among_all (EdgeMet w.time w.interval) (record { from = p; to = q; delay = memory_delay (op ops p); distance = f }) (edges ops hw)
        ((list_means_rules ops hw (record { from = p; to = q; delay = memory_delay (op ops p); distance = f })).1 (inr (record {
          from_inside = hp;
          to_inside = hq;
          different = n;
          from_memory = a.memory;
          to_memory = b.memory;
          one_stores = one_stores;
          follows = between;
          waits = refl;
        }))) met

    -- at most eight stages
    far : 8 ≤ d → Ordered
    unfolding Ordered
    far h = omega (arith, few p hp, delay_one (op ops p), mul-le-mul_right w.interval h, later)

    -- one stride above 0: the edge at distance d
    near : stride_of (op ops p) ≡ stride_of (op ops q) → 0 < stride_of (op ops p) → d ≤ 7 → Ordered
    unfolding Ordered
    near same pos h =
        let offsets : offset_of (op ops p) ≡ offset_of (op ops q) + stride_of (op ops p) * d =
        omega (arith, a.there, b.there, ap (λ z. stride_of (op ops q) * z) is, ap (λ z. z * i) same, ap (λ z. z * d) same) in
        let forward : d ≡ 0 → p < q = λ z. elim e [ inl l ↦ absurd (omega arith) | inr y ↦ y.1 ] in
        omega (arith, edge d (inl (same, pos, offsets, h, forward)), later)

    -- an edge each way
    tied : (stride_of (op ops p) ≡ stride_of (op ops q) → (stride_of (op ops p) ≡ 0) × (offset_of (op ops p) ≡ offset_of (op ops q))) → Ordered
    unfolding Ordered
    tied c = elim (cases_lt p q) [
      | inl l ↦ omega (arith, edge 0 (inr (c, inl (refl, l))), later)
      | inr g ↦
          let above : q < p = omega arith in
          let next : 1 ≤ d = elim e [ inl l ↦ omega arith | inr y ↦ absurd (omega (arith, y.1)) ] in
          omega (arith, edge 1 (inr (c, inr (refl, above))), later, mul-le-mul_right w.interval next)
    ]

    in_order : Ordered
    in_order = elim (cases_lt d 8) [
      | inr h ↦ far h
      | inl h ↦ elim (cases_eq (stride_of (op ops p)) (stride_of (op ops q))) [
        | inr different ↦ tied (λ same. absurd (different same))
        | inl same ↦ elim (cases_eq (stride_of (op ops p)) 0) [
          | inl zero ↦ tied (λ _. (zero, omega (arith, a.there, b.there, ap (λ z. z * i) zero, ap (λ z. z * m) zero, ap (λ z. z * m) same)))
          | inr z ↦ near same (omega arith) (omega arith)
        ]
      ]
    ]

  ordered : (p i q m x : ℕ) → p < length ops → q < length ops → (p ≡ q → ⊥) → Earlier p i q m →
      Access (op ops p) i x → Access (op ops q) m x → (makes (op ops p) ≡ false) ⊎ (makes (op ops q) ≡ false) →
      issue_cycle w p i + memory_delay (op ops p) ≤ issue_cycle w q m
  unfolding Ordered
  ordered p i q m x hp hq n e a b one_stores =
      let h : i ≤ m = elim e [ inl l ↦ omega arith | inr y ↦ omega arith ] in
      in_order p i q m (m - i) x hp hq n e (omega arith) a b one_stores

  -- One operation, in two iterations.
  again : (p i q m : ℕ) → p ≡ q → Earlier p i q m → issue_cycle w p i + 1 ≤ issue_cycle w q m
  again p i q m same (inl l) = omega (arith, mul-le-mul_right w.interval l, ap w.time same)
  again p i q m same (inr y) = absurd (omega arith)

pub memory_in_order : MemoryInOrder
memory_in_order ops hw w s few p i q m x hp hq e a b one = elim (cases_eq p q) [
  | inl same ↦ omega (arith, again ops hw w s.positive few s.edges_met p i q m same e, delay_one (op ops p))
  | inr n ↦ ordered ops hw w s.positive few s.edges_met p i q m x hp hq n e (access (op ops p) i x a) (access (op ops q) m x b)
      (elim one [ inl t ↦ inl (stores (op ops p) i x t) | inr t ↦ inr (stores (op ops q) m x t) ])
]

pub operands_landed : OperandsLanded
operands_landed ops hw w s q l = each_operand _ _ landed (op ops q) (operand_part (EdgeMet w.time w.interval) ops hw s.edges_met q l)
  where
    landed : (a : Operand) → OfOperand (EdgeMet w.time w.interval) hw q a → Met hw w q a
    landed (literal z) h = tt
    landed (variable p d) h = h
