use Rattle.std.proofs.Common.{refl}
use Rattle.packer_laws.proofs.Texts.{machine_kept}
use Rattle.packer.proofs.packer.Packer.machine.Goals as goal

pub returns : goal.returns
returns g c = record {
  keeps = machine_kept g.S.Scheme.meaning g.S.Scheme.place g.D.Domain.operations c.args.self.now.scheme c.args.self.now.desk c.read_machine.new.self
      c.args.text.now c.read_machine.result c.read_machine.ensures;
  domain = refl;
}
