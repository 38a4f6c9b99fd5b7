use Rattle.graph_laws.proofs.fixed_is_height.Goals as goal
use Rattle.graph_laws.proofs.Relaxed.{fixed_is_height}

pub returns : goal.returns
returns c = fixed_is_height
