use Rattle.search_laws.proofs.search_is_sound.Goals as goal
use Rattle.search_laws.proofs.Plan.{search_is_sound}

pub returns : goal.returns
returns c = search_is_sound
