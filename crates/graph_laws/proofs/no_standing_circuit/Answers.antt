use Rattle.graph_laws.proofs.no_standing_circuit.Goals as goal
use Rattle.graph_laws.proofs.Around.{no_standing_circuit}

pub returns : goal.returns
returns c = no_standing_circuit
