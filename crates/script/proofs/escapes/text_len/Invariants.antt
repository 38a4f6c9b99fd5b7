use Rattle.std.proofs.Common.{◌≡◌, ◌+◌, ◌≤◌, length}
use Rattle.script.specs.Escapes.{spelled, unescaped}
use Rattle.script.specs.Spelling.{length_in}
use Rattle.script.proofs.Spells.{plus}
use Rattle.script.proofs.escapes.text_len.Given as goal

abbrev pub invariant-loop-n : goal.invariant-loop-n
invariant-loop-n l =
    (l.n + length l.left.bytes.now ≤ length l.body)
    × (plus l.n (length_in (spelled l.left.after l.left.bytes.now)) ≡ length_in (unescaped l.body))

abbrev pub decreases-loop-n : goal.decreases-loop-n
decreases-loop-n l = length l.left.bytes.now
