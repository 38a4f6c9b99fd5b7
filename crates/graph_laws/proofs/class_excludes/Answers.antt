use Rattle.graph_laws.proofs.class_excludes.Goals as goal
use Rattle.graph_laws.proofs.Lower.{class_excludes}

pub returns : goal.returns
returns c = class_excludes
