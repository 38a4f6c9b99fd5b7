use Rattle.pipelining.proofs.pipelining_stands.Goals as goal
use Rattle.pipelining.proofs.Theorem.{pipelined}

pub returns : goal.returns
returns g c = pipelined
