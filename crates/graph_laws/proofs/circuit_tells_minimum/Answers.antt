use Rattle.graph_laws.proofs.circuit_tells_minimum.Goals as goal
use Rattle.graph_laws.proofs.Upper.{circuit_tells_minimum}

pub returns : goal.returns
returns c = circuit_tells_minimum
