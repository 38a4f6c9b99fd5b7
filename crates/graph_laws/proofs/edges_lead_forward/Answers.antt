use Rattle.graph_laws.proofs.edges_lead_forward.Goals as goal
use Rattle.graph_laws.proofs.Listed.{edges_lead_forward}

pub returns : goal.returns
returns c = edges_lead_forward
