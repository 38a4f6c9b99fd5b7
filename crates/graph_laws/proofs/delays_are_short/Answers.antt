use Rattle.graph_laws.proofs.delays_are_short.Goals as goal
use Rattle.graph_laws.proofs.Listed.{delays_are_short}

pub returns : goal.returns
returns c = delays_are_short
