use Rattle.std.proofs.Common.{sym, refl, ap}
use Rattle.model.specs.Faults.{on_err, text_fault}
use Rattle.texts.specs.Records.{machine_seen}
use Rattle.standing.proofs.desk.Desk.read_machine.Goals as goal

pub returns : goal.returns
returns c =
    (machine_seen c.in_ok-machine.machine, (sym (ap (on_err text_fault) c.in_ok-machine.ensures), refl, c.in_ok-machine.machine.sound))
