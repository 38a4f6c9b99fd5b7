use Rattle.std.proofs.Common.{◌≡◌, Ok, sym}
use Rattle.model.specs.MachineText.{read_machine}
use Rattle.text_laws.proofs.SoundMachines.{is_sound_machine}
use Rattle.texts.specs.Seen.{entries_seen}
use Rattle.texts.proofs.machine.Machine.read.Goals as goal

pub invariant_of-result : goal.invariant_of-result
invariant_of-result c =
    let text = c.args.text.now in
    let m = entries_seen c.in_ok-entries.entries in
    let read : read_machine text ≡ Ok m = sym c.in_ok-entries.ensures in
    record { sound = is_sound_machine text m read }
