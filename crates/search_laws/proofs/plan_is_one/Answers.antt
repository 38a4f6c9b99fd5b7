use Rattle.search_laws.proofs.plan_is_one.Goals as goal
use Rattle.search_laws.proofs.Plan.{plan_is_one}

pub returns : goal.returns
returns c = plan_is_one
