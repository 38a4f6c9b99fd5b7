use Rattle.std.proofs.Common.{◌≡◌, ℕ, ◌+◌, length, refl, sym, ◌∙◌, subst, ap₂, arith}
use Rattle.std.specs.Int.{div_ceil}
use Rattle.model.specs.Limits.{hardware}
use Rattle.model.specs.Minimum.{own_minimum}
use Rattle.graph_laws.specs.Trails.{Leads}
use Rattle.graph_laws.proofs.Sums.{takes_lead, keeps_lead}
use Rattle.bounds.specs.declared.resource.Resource.{Resource}
use Rattle.bounds.proofs.Sums.{few_uses, own_is}
use Rattle.bounds.proofs.resource.resource_minimum.Goals as goal
use Rattle.bounds.proofs.resource.resource_minimum.Goals.{then-best-interval, else-best-interval}

pub busy_sum-requires : goal.busy_sum-requires
busy_sum-requires c = omega (arith, few_uses c.args.timings.now c.args.units.now c.loop-class.class c.requires.few c.requires.fits)

pub loop-class-preserved : goal.loop-class-preserved
loop-class-preserved c =
    let f : ℕ → ℕ = own_minimum (hardware c.args.timings.now c.args.units.now) (length c.args.timings.now) in
    let old : Resource = c.loop-class.best in
    let next : Resource → Type 0 = λ b. Leads f (c.loop-class.class + 1) b.interval b.class in
    let is : c.div_ceil-interval.result ≡ f c.loop-class.class = c.div_ceil-interval.ensures ∙
    ap₂ div_ceil c.busy_sum.ensures refl ∙ own_is c.args.timings.now c.args.units.now c.loop-class.class c.requires.fits c.loop-class-test.true in
    elim c.if-best-interval.branch [
      | then-best-interval w ↦ subst next (sym w.best-is) (takes_lead f c.loop-class.class old.interval old.class _ c.loop-class.invariant is w.if-best-interval.true)
      | else-best-interval w ↦ subst next (sym w.best-is) (keeps_lead f c.loop-class.class old.interval old.class _ c.loop-class.invariant is w.if-best-interval.false)
    ]
