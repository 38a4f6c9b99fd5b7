use Rattle.std.proofs.Common.{◌≡◌, ◌≤◌, length, take, drop, Some}
use Rattle.script.specs.Escapes.{spelled, unescaped}
use Rattle.script.specs.Spelling.{length_in}
use Rattle.script.proofs.Spells.{plus, behind}
use Rattle.script.proofs.escapes.unescape.Given as goal

abbrev pub invariant-loop-b : goal.invariant-loop-b
invariant-loop-b l =
    (l.total ≤ length l.out)
    × (length_in (unescaped l.body) ≡ Some l.total)
    × (plus l.n (length_in (spelled l.left.after l.left.bytes.now)) ≡ Some l.total)
    × (behind (take l.n l.out) (spelled l.left.after l.left.bytes.now) ≡ unescaped l.body)
    × (drop l.n l.out ≡ drop l.n l.initial.out)

abbrev pub decreases-loop-b : goal.decreases-loop-b
decreases-loop-b l = length l.left.bytes.now
