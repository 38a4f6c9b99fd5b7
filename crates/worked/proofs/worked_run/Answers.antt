use Rattle.worked.proofs.worked_run.Goals as goal
use Rattle.worked.proofs.Running.{worked}

pub returns : goal.returns
returns c = worked
