use Rattle.worked.proofs.worked_faults.Goals as goal
use Rattle.worked.proofs.Faulting.{worked}

pub returns : goal.returns
returns c = worked
