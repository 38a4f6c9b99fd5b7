use Rattle.register_laws.proofs.Rotating.{rotating_keeps}
use Rattle.register_laws.proofs.Expanded.{expanded_keeps}
use Rattle.register_laws.proofs.names_resolve.Goals as goal

pub returns : goal.returns
returns c = record {
  rotating = λ t limits fits. (rotating_keeps t limits fits).lawful.resolves;
  expanded = λ t limits fits. (expanded_keeps t limits fits).lawful.resolves;
}
