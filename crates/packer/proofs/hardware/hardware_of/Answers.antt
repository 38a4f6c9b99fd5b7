use Rattle.std.proofs.Common.{length}
use Rattle.few.specs.Held.{held}
use Rattle.model.specs.Soundness.{units_of}
use Rattle.texts.specs.Records.{machine_seen}
use Rattle.packer_laws.proofs.Ran.{units_same}
use Rattle.packer.proofs.hardware.hardware_of.Goals as goal

pub returns : goal.returns
returns c =
    let a = c.timing_of.ensures in
    let b = c.timing_of-2.ensures in
    let d = c.timing_of-3.ensures in
    let e = c.timing_of-4.ensures in
    let f = c.timing_of-5.ensures in
    let h = c.timing_of-6.ensures in
    record {
      timings = cc;
      units = units_same c.units_of.result (units_of (machine_seen c.args.machine.now)) (length (held c.args.machine.now.entries.classes)) c.units_of.ensures.value c.units_of.ensures.behind;
    }
