use Rattle.search_laws.proofs.plan_ends.Goals as goal
use Rattle.search_laws.proofs.Plan.{plan_ends}

pub returns : goal.returns
returns c = plan_ends
