use Rattle.std.proofs.Common.{refl}
use Rattle.packer_laws.proofs.Texts.{loop_kept}
use Rattle.packer.proofs.packer.Packer.read_loop.Goals as goal

pub returns : goal.returns
returns g c = record {
  keeps = loop_kept g.S.Scheme.meaning g.S.Scheme.place g.D.Domain.operations c.args.self.now.scheme c.args.self.now.desk c.read_loop.new.self
      c.args.text.now c.read_loop.result c.read_loop.ensures;
  domain = refl;
}
