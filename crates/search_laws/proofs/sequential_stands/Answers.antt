use Rattle.search_laws.proofs.sequential_stands.Goals as goal
use Rattle.search_laws.proofs.Plan.{sequential_stands}

pub returns : goal.returns
returns c = sequential_stands
