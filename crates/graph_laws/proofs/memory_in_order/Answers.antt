use Rattle.graph_laws.proofs.memory_in_order.Goals as goal
use Rattle.graph_laws.proofs.Memory.{memory_in_order}

pub returns : goal.returns
returns c = memory_in_order
