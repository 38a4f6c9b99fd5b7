use Rattle.edge_laws.proofs.Few.{edges_few}
use Rattle.edge_laws.proofs.edges_are_few.Goals as goal

pub returns : goal.returns
returns c = edges_few
