-- What a schedule of at most eight stages gives: the order of memory, and values that have landed when they are read.
use Rattle.std.specs.Prelude.{◌≡◌, ℕ, ◌+◌, ◌*◌, ◌<◌, ◌≤◌, ◌⊎◌, length}
use Rattle.model.specs.Loop.{Loop, Operand, literal, variable, Operation, op, Loads, Stores, EachOperand, Hardware}
use Rattle.model.specs.Edges.{memory_delay}
use Rattle.model.specs.Schedule.{Schedule, IsSchedule, FewStages}

-- The cycle in which operation j issues for iteration i.
abbrev pub issue_cycle : Schedule → ℕ → ℕ → ℕ
issue_cycle w j i = w.time j + i * w.interval

-- Iteration i of operation p comes before iteration m of operation q in the plain loop.
abbrev pub Earlier : ℕ → ℕ → ℕ → ℕ → Type 0
Earlier p i q m = (i < m) ⊎ ((i ≡ m) × (p < q))

-- Operation o in iteration i loads from cell x or stores to it.
abbrev pub Touches : {A : Type 0} → Operation A → ℕ → ℕ → Type 0
Touches o i x = Loads o i x ⊎ Stores o i x

-- THE ORDER OF MEMORY. Of two instances that touch one cell, at least one a store, the one that is earlier in the plain loop issues first:
-- a cycle before the other if it is a store, no later than the other if it is a load.
abbrev pub MemoryInOrder : Type 0
MemoryInOrder =
    (ops : Loop) (hw : Hardware) (w : Schedule) → IsSchedule ops hw w → FewStages ops w →
    (p i q m x : ℕ) → p < length ops → q < length ops → Earlier p i q m →
    Touches (op ops p) i x → Touches (op ops q) m x → Stores (op ops p) i x ⊎ Stores (op ops q) m x →
    issue_cycle w p i + memory_delay (op ops p) ≤ issue_cycle w q m

-- The edge from an operand's definer to operation q is met: the value has landed when q reads it.
abbrev pub Met : Hardware → Schedule → ℕ → Operand → Type 0
Met hw w q (literal z) = Unit {0}
Met hw w q (variable p d) = w.time p + hw.latency p ≤ w.time q + d * w.interval

abbrev pub OperandsLanded : Type 0
OperandsLanded =
    (ops : Loop) (hw : Hardware) (w : Schedule) → IsSchedule ops hw w →
    (q : ℕ) → q < length ops → EachOperand (Met hw w q) (op ops q)
