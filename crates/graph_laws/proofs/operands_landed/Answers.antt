use Rattle.graph_laws.proofs.operands_landed.Goals as goal
use Rattle.graph_laws.proofs.Memory.{operands_landed}

pub returns : goal.returns
returns c = operands_landed
