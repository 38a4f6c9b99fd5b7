use Rattle.std.proofs.Common.{◌≡◌, ◌≤◌, length}
use Rattle.script.specs.Escapes.{spelled}
use Rattle.script.proofs.escapes.Body.next_byte.Given as goal

abbrev pub invariant-loop-b : goal.invariant-loop-b
invariant-loop-b l =
    (spelled l.self.after l.self.bytes.now ≡ spelled l.initial.self.after l.initial.self.bytes.now)
    × (length l.self.bytes.now ≤ length l.initial.self.bytes.now)

abbrev pub decreases-loop-b : goal.decreases-loop-b
decreases-loop-b l = length l.self.bytes.now
