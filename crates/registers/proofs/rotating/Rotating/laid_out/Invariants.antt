use Rattle.few.specs.Held.{held}
use Rattle.registers.proofs.Layouts.{Laid}
use Rattle.registers.proofs.rotating.Rotating.laid_out.Given as goal

abbrev pub invariant-loop-life : goal.invariant-loop-life
invariant-loop-life l = Laid l.interval l.life-items l.life-index l.below (held l.bases)
