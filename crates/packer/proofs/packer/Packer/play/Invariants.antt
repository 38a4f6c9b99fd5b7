use Rattle.std.proofs.Common.{◌≡◌, take, drop}
use Rattle.guarantee.specs.Lists.{Chain}
use Rattle.packer_laws.specs.States.{state, Whole}
use Rattle.packer.specs.Plays.{PlayedOne}
use Rattle.packer.proofs.packer.Packer.play.Given as goal

abbrev pub invariant-loop-entry : goal.invariant-loop-entry
invariant-loop-entry g l =
    (l.self.domain ≡ l.initial.self.domain) × (drop l.entry-index l.entries ≡ drop l.entry-index l.initial.entries) ×
    (Whole g.S.Scheme.meaning g.S.Scheme.place g.D.Domain.operations l.initial.self.scheme l.initial.self.desk →
    Chain (PlayedOne g.S.Scheme.meaning g.S.Scheme.place g.D.Domain.operations) (state l.initial.self.scheme l.initial.self.desk)
    (take l.entry-index l.initial.entries) (take l.entry-index l.entries) (state l.self.scheme l.self.desk) ×
    Whole g.S.Scheme.meaning g.S.Scheme.place g.D.Domain.operations l.self.scheme l.self.desk)
