-- The two parts of the list, of the records of the code.
use Rattle.std.specs.Prelude.{ℕ, List, length}
use Rattle.model.specs.Loop.{Hardware, Operation, Operand, op, operands}
use Rattle.model.specs.Loop.{Loop as LoopBody}
use Rattle.model.specs.declared.Edge.{Edge}
use Rattle.model.specs.Edges.{each, operand_edges, memory_delay, between}
use Rattle.edge_laws.specs.Meeting.{distance_on, distance_back, edge_at, by_distance}
use Rattle.model.specs.Soundness.{hardware}
use Rattle.texts.specs.Records.{machine_seen}
use Rattle.texts.specs.declared.machine.Machine.{Machine}
use Rattle.dependence.specs.Loops.{loop_seen}
use Rattle.dependence.specs.declared.loops.Loop.{Loop}

abbrev pub hardware_of : Machine → Loop → Hardware
hardware_of m l = hardware (machine_seen m) (loop_seen l)

abbrev pub operands_of : Machine → Loop → ℕ → List Edge
operands_of m l q = operand_edges (hardware_of m l) q (operands (op (loop_seen l) q))

abbrev pub operand_part : Machine → Loop → List Edge
operand_part m l = each (operands_of m l) (length (loop_seen l))

-- The edges between lines p and q, from the operations on them.
abbrev pub pair : ℕ → ℕ → Operation Operand → Operation Operand → List Edge
pair p q x y = by_distance (edge_at p q (memory_delay x) (distance_on x y)) (edge_at q p (memory_delay y) (distance_back x y))

abbrev pub row_in : LoopBody → ℕ → List Edge
row_in ops p = each (λ q. between ops p q) (length ops)

abbrev pub memory_in : LoopBody → List Edge
memory_in ops = each (row_in ops) (length ops)

abbrev pub memory_part : Loop → List Edge
memory_part l = memory_in (loop_seen l)
