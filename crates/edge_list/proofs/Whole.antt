-- The two parts are the whole list, and there is room for it.
use Rattle.std.proofs.Common.{◌≡◌, ◌+◌, ◌≤◌, List, [], ◌++◌, length, refl, ap, ◌∙◌, arith}
use Rattle.std.proofs.lemmas.List.{length-append}
use Rattle.model.specs.declared.Edge.{Edge}
use Rattle.model.specs.Edges.{edges}
use Rattle.edge_laws.proofs.Few.{edges_few}
use Rattle.texts.specs.declared.machine.Machine.{Machine}
use Rattle.dependence.specs.declared.loops.Loop.{Loop}
use Rattle.dependence.specs.Loops.{loop_seen}
use Rattle.edge_list.specs.Lists.{hardware_of, operand_part, memory_part}

pub two_parts : (m : Machine) (l : Loop) → operand_part m l ++ memory_part l ≡ edges (loop_seen l) (hardware_of m l)
unfolding edges
two_parts m l = refl

pub parts_fit : (m : Machine) (l : Loop) → length (operand_part m l) + length (memory_part l) ≤ 304
parts_fit m l = omega (arith, length-append (operand_part m l) (memory_part l), ap length (two_parts m l), edges_few (loop_seen l) (hardware_of m l) l.sound)

-- an empty list, with the one part behind it and then the other
pub listed : (m : Machine) (l : Loop) (a b c : List Edge) → a ≡ [] → b ≡ a ++ operand_part m l → c ≡ b ++ memory_part l → c ≡ edges (loop_seen l) (hardware_of m l)
listed m l a b c x y z = z ∙ ap (λ r. r ++ memory_part l) (y ∙ ap (λ r. r ++ operand_part m l) x) ∙ two_parts m l
