use Rattle.graph_laws.proofs.circuit_excludes.Goals as goal
use Rattle.graph_laws.proofs.Around.{circuit_excludes}

pub returns : goal.returns
returns c = circuit_excludes
