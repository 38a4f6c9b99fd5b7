-- The sequential times meet every edge at the sum of the latencies; and how the least interval is known.
use Rattle.std.proofs.Common.{◌≡◌, ℕ, suc, ◌+◌, ◌*◌, ◌<◌, ◌≤◌, eqb, length, inl, inr, mul-le-mul_right, mul-le-mul_left, arith}
use Rattle.std.specs.List.{AllByRecursion}
use Rattle.std.proofs.lemmas.Bool.{cases_eq, cases_lt, cases_Bool}
use Rattle.model.specs.Loop.{Loop, Operand, literal, variable, op, Hardware, total, WellFormed, Named}
use Rattle.model.specs.Edges.{EdgeMet, edges, memory_delay}
use Rattle.model.specs.Walks.{delays, distances}
use Rattle.model.specs.Minimum.{busy_sum, own_minimum}
use Rattle.model.specs.GraphLaws.{AtMostSequential, CircuitTellsMinimum}
use Rattle.graph_laws.proofs.Total.{total_le, total_longer}
use Rattle.graph_laws.proofs.Listed.{OfOperand, all_edges, each_operand, forward_edge, Joined, joined, delay_one}
use Rattle.graph_laws.proofs.Around.{none_above}
use Rattle.graph_laws.proofs.Lower.{rounded_least, greatest_least}

module _ (ops : Loop) (hw : Hardware) (formed : WellFormed ops hw) where
  abbrev whole : ℕ
  whole = total hw.latency (length ops)

  sequential_edge : (p q d delay : ℕ) → p < length ops → delay ≤ hw.latency p → (d ≡ 0 → p < q) → total hw.latency p + delay ≤ total hw.latency q + d * whole
  sequential_edge p q d delay hp small forward = elim (cases_eq d 0) [
    | inl z ↦ omega (arith, total_longer hw.latency (suc p) q (forward z))
    | inr n ↦
        let one : 1 ≤ d = omega arith in
        omega (arith, total_longer hw.latency (suc p) (length ops) hp, mul-le-mul_right whole one)
  ]

  pub sequential_met : AllByRecursion (EdgeMet (total hw.latency) whole) (edges ops hw)
  unfolding Joined
  sequential_met = all_edges (EdgeMet (total hw.latency) whole) ops hw
      (λ q l. each_operand _ _ (operand q) (op ops q) (formed.named q l))
      (λ p q d hp hq n hd e. sequential_edge p q d (memory_delay (op ops p)) hp (omega (arith, delay_one (op ops p), (formed.latencies p hp).0)) (forward_edge p _ _ q _ _ d (joined ops p q d e).3))
    where
      operand : (q : ℕ) (a : Operand) → Named ops q a → OfOperand (EdgeMet (total hw.latency) whole) hw q a
      operand q (literal z) h = tt
      operand q (variable p d) h = sequential_edge p q d (hw.latency p) h.0 (omega arith) h.2

  class_below : (u : ℕ) → busy_sum hw (length ops) u ≤ whole
  class_below u = total_le _ hw.latency (length ops) (λ j l. elim (cases_Bool (eqb (hw.class j) u)) [ inl e ↦ rw e (formed.busies j l).1 | inr e ↦ rw e (omega arith) ])

pub at_most_sequential : AtMostSequential
at_most_sequential ops hw classes k formed some_units min =
    let whole : ℕ = total hw.latency (length ops) in
    let positive : 1 ≤ total hw.latency (length ops) = omega (arith, total_longer hw.latency 1 (length ops) formed.some, (formed.latencies 0 formed.some).0) in
    let r = min.least.2 whole positive (none_above (edges ops hw) (total hw.latency) whole (sequential_met ops hw formed)) in
    let c = greatest_least (own_minimum hw (length ops)) classes whole (λ u l.
    rounded_least (busy_sum hw (length ops) u) (hw.units u) whole (some_units u l) (omega (arith, class_below ops hw formed u, mul-le-mul_right whole (some_units u l)))) in
    omega (arith, min.greater)

pub circuit_tells_minimum : CircuitTellsMinimum
circuit_tells_minimum es k none xs c above = (
  (
    omega arith,
    none,
    λ m one hm. elim (cases_lt m (suc k)) [
      | inl l ↦ absurd (omega (arith, hm xs c, stays m l))
      | inr g ↦ g
    ],
  ),
  stays,
)
  where
    stays : (m : ℕ) → m < suc k → distances es xs * m < delays es xs
    stays m l =
        let h : m ≤ k = omega arith in
        omega (arith, mul-le-mul_left (distances es xs) h)
