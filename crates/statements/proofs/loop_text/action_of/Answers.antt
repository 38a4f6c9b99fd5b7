use Rattle.std.proofs.Common.{◌∙◌}
use Rattle.statements.proofs.LoopSteps.{binary_said}
use Rattle.statements.proofs.loop_text.action_of.Goals as goal

pub returns-in-Binary : goal.returns-in-Binary
returns-in-Binary c = simp c.in-Binary.is (c.binary_of.ensures ∙ binary_said c.in-Binary.operator _ _ _ _ _)
