use Rattle.register_laws.proofs.Expanded.{expanded_keeps}
use Rattle.register_laws.proofs.expanded_keeps_law.Goals as goal

pub returns : goal.returns
returns c = expanded_keeps
