use Rattle.graph_laws.proofs.list_means_rules.Goals as goal
use Rattle.graph_laws.proofs.Listed.{list_means_rules}

pub returns : goal.returns
returns c = list_means_rules
