use Rattle.schedule_laws.proofs.Intervals.{rounds_are_heights}
use Rattle.schedule_laws.proofs.rounds_are_heights.Goals as goal

pub returns : goal.returns
returns c = rounds_are_heights
