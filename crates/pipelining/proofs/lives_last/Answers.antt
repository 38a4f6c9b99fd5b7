use Rattle.pipelining.proofs.lives_last.Goals as goal
use Rattle.pipelining.proofs.Theorem.{lives_last}

pub returns : goal.returns
returns c = lives_last
