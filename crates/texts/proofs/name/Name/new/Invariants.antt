use Rattle.std.proofs.Common.{◌≡◌, ◌≤◌, length, take}
use Rattle.few.specs.Held.{held}
use Rattle.texts.proofs.name.Name.new.Given as goal

abbrev pub invariant-loop-b : goal.invariant-loop-b
invariant-loop-b l = (held l.bytes ≡ take l.b-index l.word) × (length l.word ≤ 8)
