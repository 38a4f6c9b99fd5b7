use Rattle.text_laws.proofs.Formed.{well_formed, machine_fits}
use Rattle.text_laws.proofs.SoundLoops.{sound_ops}
use Rattle.text_laws.proofs.SoundMachines.{is_sound_machine}
use Rattle.text_laws.proofs.texts_are_sound.Goals as goal

pub returns : goal.returns
returns c = record { machines = is_sound_machine; loops = sound_ops; well_formed = well_formed; fits = machine_fits }
