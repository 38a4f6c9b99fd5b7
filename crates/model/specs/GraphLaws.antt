-- The laws of edges, circuits and the minimum.
use Rattle.std.specs.Prelude.{◌≡◌, ℕ, suc, ◌+◌, ◌*◌, ◌<◌, ◌≤◌, true, false, ◌⊎◌, ◌↔◌, List, [], ◌∷◌, length}
use Rattle.std.specs.List.{AllByRecursion}
use Rattle.model.specs.Loop.{Loop, variable, op, operands, makes, in_memory, stride_of, offset_of, Hardware, total, WellFormed}
use Rattle.model.specs.Edges.{Edge, EdgeMet, edges, memory_delay}
use Rattle.model.specs.Schedule.{Schedule, IsSchedule, row_uses, sequential}
use Rattle.model.specs.Walks.{edge, delays, distances, Circuit, Simple, Within, Forward}
use Rattle.model.specs.Minimum.{NoneAbove, RecurrenceMinimum, IsMinimum, ClassWitness, CircuitWitness, IsHeight}
use Rattle.model.specs.Relaxation.{rounds, Fixed}
use Rattle.model.specs.Limits.{GraphFits}

abbrev pub Among : {A : Type 0} → A → List A → Type 0
Among x [] = ⊥
Among x (y ∷ ys) = (x ≡ y) ⊎ Among x ys

-- An operand of the operation that the edge reaches names a variable of the one that it leaves.
abbrev pub OperandEdge : Loop → Hardware → Edge → Type 0
OperandEdge ops hw e =
    (e.to < length ops) × Among (variable e.from e.distance) (operands (op ops e.to)) × (e.delay ≡ hw.latency e.from)

-- Of operation p with stride s and offset a, and operation q with stride t and offset b: q follows p at distance d.
abbrev pub Follows : ℕ → ℕ → ℕ → ℕ → ℕ → ℕ → ℕ → Type 0
Follows p s a q t b d =
    ((s ≡ t) × (0 < s) × (a ≡ b + s * d) × (d ≤ 7) × (d ≡ 0 → p < q)) ⊎
    ((s ≡ t → (s ≡ 0) × (a ≡ b)) × (((d ≡ 0) × (p < q)) ⊎ ((d ≡ 1) × (q < p))))

-- Two different memory operations, at least one a store.
pub record MemoryEdge (ops : Loop) (e : Edge) : Type 0 where
  pub from_inside : e.from < length ops
  pub to_inside : e.to < length ops
  pub different : e.from ≡ e.to → ⊥
  pub from_memory : in_memory (op ops e.from) ≡ true
  pub to_memory : in_memory (op ops e.to) ≡ true
  pub one_stores : (makes (op ops e.from) ≡ false) ⊎ (makes (op ops e.to) ≡ false)
  pub follows : Follows e.from (stride_of (op ops e.from)) (offset_of (op ops e.from))
      e.to (stride_of (op ops e.to)) (offset_of (op ops e.to)) e.distance
  pub waits : e.delay ≡ memory_delay (op ops e.from)

-- The list has the edges of the rules, and no others.
abbrev pub ListMeansRules : Type 0
ListMeansRules = (ops : Loop) (hw : Hardware) (e : Edge) → Among e (edges ops hw) ↔ (OperandEdge ops hw e ⊎ MemoryEdge ops e)

-- Edges join the loop's operations, and those of distance 0 lead from earlier lines to later.
abbrev pub EdgesLeadForward : Type 0
EdgesLeadForward = (ops : Loop) (hw : Hardware) → WellFormed ops hw → Within (length ops) (edges ops hw) × Forward (edges ops hw)

-- An edge asks for no more than the latency of the operation that it leaves, and a memory edge for 1 or 0.
abbrev pub DelaysAreShort : Type 0
DelaysAreShort = (ops : Loop) (hw : Hardware) → WellFormed ops hw →
    AllByRecursion (λ e. e.delay ≤ hw.latency e.from) (edges ops hw) × ((e : Edge) → MemoryEdge ops e → e.delay ≤ 1)

-- No circuit has distance 0.
abbrev pub NoStandingCircuit : Type 0
NoStandingCircuit = (ops : Loop) (hw : Hardware) → WellFormed ops hw → (xs : List ℕ) → Circuit (edges ops hw) xs → 0 < distances (edges ops hw) xs

-- If round r changes nothing any more, the values are the heights, and no circuit is above k.
abbrev pub FixedIsHeight : Type 0
FixedIsHeight = (es : List Edge) (k r : ℕ) → Fixed k es (rounds k es r) →
    NoneAbove es k × ((u : ℕ) → IsHeight es k u (rounds k es r u))

-- If round n (or a later one) still changes a value, there is a simple circuit above k.
abbrev pub ChangeGivesCircuit : Type 0
ChangeGivesCircuit = (es : List Edge) (k n : ℕ) → Within n es → (r u : ℕ) → n ≤ suc r → rounds k es r u < rounds k es (suc r) u →
    (xs : List ℕ) × Circuit es xs × Simple es xs × (distances es xs * k < delays es xs)

-- The least interval at which no circuit is above is known by a circuit that is above at the interval before; this circuit is above at each smaller one.
abbrev pub CircuitTellsMinimum : Type 0
CircuitTellsMinimum = (es : List Edge) (k : ℕ) → NoneAbove es (suc k) → (xs : List ℕ) → Circuit es xs → distances es xs * k < delays es xs →
    RecurrenceMinimum es (suc k) × ((m : ℕ) → m < suc k → distances es xs * m < delays es xs)

-- No schedule has a smaller interval than the minimum.
abbrev pub NoSmallerInterval : Type 0
NoSmallerInterval = (ops : Loop) (hw : Hardware) (classes k : ℕ) → ((u : ℕ) → u < classes → 0 < hw.units u) →
    IsMinimum (edges ops hw) hw (length ops) classes k → (w : Schedule) → IsSchedule ops hw w → k ≤ w.interval

-- The named class alone excludes each smaller interval: its own rows do not fit.
abbrev pub ClassExcludes : Type 0
ClassExcludes = (ops : Loop) (hw : Hardware) (classes k u : ℕ) → ClassWitness hw (length ops) classes k u →
    (w : Schedule) → 0 < w.interval → ((r : ℕ) → r < w.interval → row_uses ops hw w u r ≤ hw.units u) → k ≤ w.interval

-- The named circuit alone excludes each smaller interval: its own edges are not met.
abbrev pub CircuitExcludes : Type 0
CircuitExcludes = (es : List Edge) (k : ℕ) (xs : List ℕ) → CircuitWitness es k xs →
    (w : Schedule) → AllByRecursion (λ x. EdgeMet w.time w.interval (edge es x)) xs → k ≤ w.interval

-- The minimum is at most the sum of the latencies.
abbrev pub AtMostSequential : Type 0
AtMostSequential = (ops : Loop) (hw : Hardware) (classes k : ℕ) → WellFormed ops hw → ((u : ℕ) → u < classes → 0 < hw.units u) →
    IsMinimum (edges ops hw) hw (length ops) classes k → k ≤ total hw.latency (length ops)

-- The sequential schedule is one.
abbrev pub SequentialIsSchedule : Type 0
SequentialIsSchedule = (ops : Loop) (hw : Hardware) → WellFormed ops hw → IsSchedule ops hw (sequential ops hw)

-- The edges of a loop are within the limits of the code.
abbrev pub EdgesFit : Type 0
EdgesFit = (ops : Loop) (hw : Hardware) → WellFormed ops hw → GraphFits (length ops) (edges ops hw)
