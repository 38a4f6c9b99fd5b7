use Rattle.graph_laws.proofs.at_most_sequential.Goals as goal
use Rattle.graph_laws.proofs.Upper.{at_most_sequential}

pub returns : goal.returns
returns c = at_most_sequential
