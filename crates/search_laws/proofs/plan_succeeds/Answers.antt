use Rattle.search_laws.proofs.plan_succeeds.Goals as goal
use Rattle.search_laws.proofs.Plan.{plan_succeeds}

pub returns : goal.returns
returns c = plan_succeeds
