-- The edges of a loop, in the order of their numbers.
use Rattle.std.specs.Prelude.{ℕ, zero, suc, ◌+◌, ◌*◌, ◌≤◌, Bool, cond, not, ◌&&◌, ◌||◌, List, [], ◌∷◌, ◌++◌, length, ◌==◌, nat_le, nat_lt}
use Rattle.model.specs.Loop.{Loop, Operand, literal, variable, Operation, load, store, binary, move, op, operands, makes, in_memory, stride_of, offset_of, Hardware}
pub use Rattle.model.specs.declared.Edge.{Edge}

-- What an edge asks of the times at interval k.
abbrev pub EdgeMet : (ℕ → ℕ) → ℕ → Edge → Type 0
EdgeMet time k e = time e.from + e.delay ≤ time e.to + e.distance * k

-- f 0, f 1, .. f (n - 1), one after another
abbrev pub each : {A : Type 0} → (ℕ → List A) → ℕ → List A
each f zero = []
each f (suc n) = each f n ++ f n

-- An operand that names a variable: an edge from its definer p to the reader q.
abbrev pub operand_edge : Hardware → ℕ → Operand → List Edge
operand_edge hw q (literal z) = []
operand_edge hw q (variable p d) = record { from = p; to = q; delay = hw.latency p; distance = d } ∷ []

abbrev pub operand_edges : Hardware → ℕ → List Operand → List Edge
operand_edges hw q [] = []
operand_edges hw q (a ∷ rest) = operand_edge hw q a ++ operand_edges hw q rest

-- 1 from a store, 0 from a load
abbrev pub memory_delay : {A : Type 0} → Operation A → ℕ
memory_delay (load stride offset) = 0
memory_delay (store x stride offset) = 1
memory_delay (binary code x y) = 0
memory_delay (move x) = 0

-- THE MEMORY RULE. Of operation p with stride s and offset a, and operation q with stride t and offset b: is there an edge from p to q with distance d?
-- Equal strides above 0: q, d iterations later, touches the cell of p. Strides that differ, or 0 with one offset: an edge each way.
unfoldable pub meets : ℕ → ℕ → ℕ → ℕ → ℕ → ℕ → ℕ → Bool
meets p s a q t b d =
    cond (s == t && nat_lt 0 s)
    (a == b + s * d && (nat_le d 7 && (nat_lt 0 d || nat_lt p q)))
    ((not (s == t) || a == b) && ((d == 0 && nat_lt p q) || (d == 1 && nat_lt q p)))

-- Both touch memory, one of them stores, and they meet at the distance.
unfoldable pub joins : Loop → ℕ → ℕ → ℕ → Bool
joins ops p q d =
    (in_memory (op ops p) && in_memory (op ops q)) &&
    ((not (makes (op ops p)) || not (makes (op ops q))) &&
    meets p (stride_of (op ops p)) (offset_of (op ops p)) q (stride_of (op ops q)) (offset_of (op ops q)) d)

abbrev pub memory_link : Loop → ℕ → ℕ → ℕ → Edge
memory_link ops p q d = record { from = p; to = q; delay = memory_delay (op ops p); distance = d }

abbrev pub memory_edge : Loop → ℕ → ℕ → ℕ → List Edge
memory_edge ops p q d = cond (joins ops p q d) (memory_link ops p q d ∷ []) []

-- Between the operations on two lines: by the distance.
abbrev pub between : Loop → ℕ → ℕ → List Edge
between ops p q = cond (nat_lt p q) (each (λ d. memory_edge ops p q d ++ memory_edge ops q p d) 8) []

-- The operand edges by reader and operand, then the memory edges by the earlier line, the later line and the distance.
unfoldable pub edges : Loop → Hardware → List Edge
edges ops hw =
    each (λ q. operand_edges hw q (operands (op ops q))) (length ops) ++
    each (λ p. each (λ q. between ops p q) (length ops)) (length ops)
