use Rattle.search_laws.proofs.plan_is_sound.Goals as goal
use Rattle.search_laws.proofs.Plan.{plan_is_sound}

pub returns : goal.returns
returns c = plan_is_sound
