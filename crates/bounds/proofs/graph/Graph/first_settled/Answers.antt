use Rattle.std.proofs.Common.{◌≡◌, ◌+◌, ◌-◌, subst, inl, inr, arith}
use Rattle.std.proofs.lemmas.Bool.{cases_eq}
use Rattle.model.specs.Minimum.{NoneAbove}
use Rattle.graph_laws.proofs.Steps.{above_here, all_within}
use Rattle.bounds.specs.Rounds.{StillRises}
use Rattle.bounds.proofs.Marks.{never_settles}
use Rattle.bounds.proofs.graph.Graph.first_settled.Goals as goal

pub loop-interval-preserved : goal.loop-interval-preserved
loop-interval-preserved c =
    let graph = c.args.self.now in
    let k = c.loop-interval.interval in
    let rises : StillRises graph.edges.now k graph.count c.in-Err.raised = c.in-Err.ensures in
    let here : NoneAbove graph.edges.now k → ⊥ =
    above_here graph.edges.now k graph.count c.in-Err.raised (all_within graph.count graph.edges.now graph.fits.each) graph.fits.some rises.1 in
    let back : (k + 1) - 1 ≡ k = omega arith in (
      (λ m one l none. elim (cases_eq m k) [
        | inl e ↦ here (subst (NoneAbove graph.edges.now) e none)
        | inr n ↦ c.loop-interval.invariant.0 m one (omega arith) none
      ]),
      (omega (arith, c.loop-interval.auto.interval), rw back rises),
    )

pub returns : goal.returns
returns c = never_settles c.args.self.now c.loop-interval.interval c.loop-interval.rising (omega arith) c.loop-interval.invariant.1
