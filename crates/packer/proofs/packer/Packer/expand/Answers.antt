use Rattle.std.proofs.Common.{refl}
use Rattle.packer_laws.proofs.Expanded.{expand_kept}
use Rattle.packer.proofs.packer.Packer.expand.Goals as goal

pub returns : goal.returns
returns g c = record {
  keeps = expand_kept g.S.Scheme.meaning g.S.Scheme.place g.D.Domain.operations
      c.args.self.now.scheme c.args.self.now.desk c.write.new.self c.args.trips c.write.result c.write.ensures;
  domain = refl;
}
