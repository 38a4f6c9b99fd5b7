use Rattle.std.proofs.Common.{ℕ, length, sym, refl, ap, subst, arith, rules}
use Rattle.std.proofs.lemmas.List.{length-set}
use Rattle.model.specs.Relaxation.{round}
use Rattle.graph_laws.specs.Trails.{value}
use Rattle.bounds.specs.Noted.{noted}
use Rattle.bounds.specs.Rounds.{Marked}
use Rattle.graph_laws.proofs.Steps.{fits_at, raises, stays}
use Rattle.bounds.proofs.Marks.{mark_raises, unmarked}
use Rattle.bounds.proofs.graph.Relaxation.round.Goals as goal
use Rattle.bounds.proofs.graph.Relaxation.round.Goals.{then-values-e, else-values-e}

pub loop-number-init : goal.loop-number-init
unfolding round
loop-number-init c =
    let es = c.args.self.now.graph.edges.now in
    let k : ℕ = c.args.self.now.interval in
    let old = value c.args.old.now in (
      search rules,
      ap length c.none-marks.ensures,
      (λ u. refl),
      λ u. subst (λ marks. Marked es k old old u (noted marks u)) (sym c.none-marks.ensures) (unmarked es k old 32 u),
    )

pub loop-number-preserved : goal.loop-number-preserved
loop-number-preserved c =
    let graph = c.args.self.now.graph in
    let k = c.args.self.now.interval in
    let s = fits_at graph.count graph.edges.now c.loop-number.number graph.fits.each c.loop-number-test.true in
    let inv = c.loop-number.invariant in
    elim c.if-values-e.branch [
      | then-values-e w ↦ simp (w.values-is, w.marks-is, w.set.ensures) (
        simp length-set inv.0,
        simp length-set inv.1,
        raises k c.loop-number.number graph.edges.now c.args.old.now c.loop-number.values c.loop-number-test.true inv.2 _ (omega (arith, s.from, graph.fits.few, inv.0)) c.offered-better.ensures w.if-values-e.true,
        mark_raises k c.loop-number.number graph.edges.now c.args.old.now c.loop-number.values c.loop-number.marks c.loop-number-test.true inv.2 inv.3 _
            (omega (arith, s.from, graph.fits.few, inv.0)) (omega (arith, s.from, graph.fits.few, inv.1)) c.offered-better.ensures w.if-values-e.true,
      )
      | else-values-e w ↦ simp (w.values-is, w.marks-is) (
        inv.0,
        inv.1,
        stays k c.loop-number.number graph.edges.now c.args.old.now c.loop-number.values c.loop-number-test.true inv.2 (omega (arith, w.if-values-e.false, c.offered-better.ensures)),
        inv.3,
      )
    ]
