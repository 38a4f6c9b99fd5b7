use Rattle.pipelining.proofs.stages_by_times.Goals as goal
use Rattle.pipelining.proofs.Length.{stages_by_times}

pub returns : goal.returns
returns c = stages_by_times
