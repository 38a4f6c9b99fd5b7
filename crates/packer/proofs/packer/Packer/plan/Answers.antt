use Rattle.std.proofs.Common.{refl}
use Rattle.packer_laws.proofs.Planned.{plan_kept}
use Rattle.packer.proofs.packer.Packer.plan.Goals as goal

pub returns : goal.returns
returns g c = record {
  keeps = plan_kept g.S.Scheme.meaning g.S.Scheme.place g.D.Domain.operations g.met.S.Scheme.lawful g.met.S.Scheme.placed
      c.args.self.now.scheme c.schedule.new.scheme c.args.self.now.desk c.schedule.new.self c.schedule.result c.schedule.ensures;
  domain = refl;
}
