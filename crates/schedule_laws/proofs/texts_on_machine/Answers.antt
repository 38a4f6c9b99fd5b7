use Rattle.schedule_laws.proofs.Machines.{on_machines}
use Rattle.schedule_laws.proofs.texts_on_machine.Goals as goal

pub returns : goal.returns
returns c = on_machines
