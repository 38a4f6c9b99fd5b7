use Rattle.register_laws.proofs.Rotating.{rotating_keeps}
use Rattle.register_laws.proofs.rotating_keeps_law.Goals as goal

pub returns : goal.returns
returns c = rotating_keeps
