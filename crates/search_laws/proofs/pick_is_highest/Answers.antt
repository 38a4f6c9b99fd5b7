use Rattle.search_laws.proofs.pick_is_highest.Goals as goal
use Rattle.search_laws.proofs.Bounds.{pick_highest}

pub returns : goal.returns
returns c = pick_highest
