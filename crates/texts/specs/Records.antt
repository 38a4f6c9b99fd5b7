-- The machine record as the definitions have it.
use Rattle.model.specs.MachineText.{Machine}
use Rattle.texts.specs.declared.machine.Machine.{Machine as OwnMachine}
use Rattle.texts.specs.Seen.{entries_seen}

abbrev pub machine_seen : OwnMachine → Machine
machine_seen m = entries_seen m.entries
