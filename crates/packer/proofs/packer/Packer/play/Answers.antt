use Rattle.std.proofs.Common.{refl, ◌∙◌, subst}
use Rattle.guarantee.proofs.Chains.{plain_chain}
use Rattle.packer_laws.specs.States.{state}
use Rattle.packer.specs.Requests.{entry_seen}
use Rattle.packer.specs.Plays.{PlayedOne}
use Rattle.packer.proofs.Places.{rest_more, one_more, whole_list}
use Rattle.packer.proofs.packer.Packer.play.Goals as goal

pub loop-entry-preserved : goal.loop-entry-preserved
loop-entry-preserved g c =
    let now = c.loop-entry in
    let R = PlayedOne g.S.Scheme.meaning g.S.Scheme.place g.D.Domain.operations in
    let first = c.args.self.now in
    let m = state now.self.scheme now.self.desk in
    let after = c.exchange-answered.new.self in
    let t = state after.scheme after.desk in (
      c.exchange-answered.ensures.domain ∙ now.invariant.0,
      rest_more c.args.entries.now now.entries now.entry-index now.invariant.1 c.replace.new.dest,
      λ whole.
          let so_far = now.invariant.2 whole in
          let made = c.exchange-answered.ensures.keeps so_far.1 in (
            one_more c.args.entries.now now.entries now.entry-index now.invariant.1 R m t c.exchange-answered.result c.entry-item.result (state first.scheme first.desk)
                c.loop-entry-test.true now.auto.entries so_far.0 (subst (λ x. R m x c.exchange-answered.result t) c.replace-asked.ensures.value made.0)
                c.replace.new.dest c.replace.ensures.after,
            made.1,
          ),
    )

pub returns : goal.returns
returns g c = record {
  keeps = λ whole.
      let now = c.loop-entry in
      let first = c.args.self.now in
      let R = PlayedOne g.S.Scheme.meaning g.S.Scheme.place g.D.Domain.operations in
      let s = state first.scheme first.desk in
      let t = state now.self.scheme now.self.desk in
      let all = now.invariant.2 whole in
      let each = whole_list R s t c.args.entries.now now.entries now.entry-index c.loop-entry-test.false now.auto.entries all.0 in
      record {
        each = each;
        plain = plain_chain g.S.Scheme.meaning g.S.Scheme.place g.D.Domain.operations entry_seen (g.S.Scheme.meaning first.scheme).need (g.S.Scheme.meaning first.scheme).file
            s c.args.entries.now now.entries t refl refl each;
        whole = all.1;
      };
  domain = c.loop-entry.invariant.0;
}
