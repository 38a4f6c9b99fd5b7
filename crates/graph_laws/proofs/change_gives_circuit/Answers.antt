use Rattle.graph_laws.proofs.change_gives_circuit.Goals as goal
use Rattle.graph_laws.proofs.Cut.{change_gives_circuit}

pub returns : goal.returns
returns c = change_gives_circuit
