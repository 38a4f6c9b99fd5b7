use Rattle.std.proofs.Common.{◌≡◌, drop}
use Rattle.model.specs.LoopText.{uses_of}
use Rattle.statements.specs.Statements.{all_seen}
use Rattle.dependence.specs.Known.{uses_known}
use Rattle.dependence.proofs.reading.check_uses.Given as goal

abbrev pub invariant-loop-s : goal.invariant-loop-s
invariant-loop-s l = uses_known (all_seen l.statements) (uses_of (all_seen (drop l.s-index l.statements))) ≡ uses_known (all_seen l.statements) (uses_of (all_seen l.statements))
