use Rattle.graph_laws.proofs.sequential_is_schedule.Goals as goal
use Rattle.graph_laws.proofs.Sequence.{sequential_is_schedule}

pub returns : goal.returns
returns c = sequential_is_schedule
