use Rattle.graph_laws.proofs.no_smaller_interval.Goals as goal
use Rattle.graph_laws.proofs.Lower.{no_smaller_interval}

pub returns : goal.returns
returns c = no_smaller_interval
