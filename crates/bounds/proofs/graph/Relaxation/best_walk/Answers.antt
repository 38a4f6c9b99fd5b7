use Rattle.std.proofs.Common.{◌≡◌, Some, None, subst, sym, rules}
use Rattle.model.specs.Walks.{edge}
use Rattle.bounds.specs.Noted.{noted}
use Rattle.bounds.proofs.Trail.{Trail, stays, edge_taken, goes_on, ended}
use Rattle.bounds.proofs.graph.Relaxation.best_walk.Goals as goal

pub offset_bounds-self-number : goal.offset_bounds-self-number
offset_bounds-self-number c =
    let some : noted c.in-Some.marks.now c.loop-marks.at ≡ Some c.in-Some-at.number = search rules in
    let there = edge_taken c.args.self.now c.args.start _ _ _ _ _ c.in-Some.ensures.steps c.loop-marks.invariant.2 c.in-Some-at.number some in
    search rules

pub bounds-self-number : goal.bounds-self-number
bounds-self-number c = edge_taken c.args.self.now c.args.start _ _ _ _ _ c.in-Some.ensures.steps c.loop-marks.invariant.2 c.in-Some-at.number (search rules)

pub loop-marks-preserved-in-Some-at : goal.loop-marks-preserved-in-Some-at
loop-marks-preserved-in-Some-at c =
    let some : noted c.in-Some.marks.now c.loop-marks.at ≡ Some c.in-Some-at.number = search rules in (
      tt,
      tt,
      subst (λ xs. Trail c.args.self.now c.args.start xs (edge c.args.self.now.graph.edges.now c.in-Some-at.number).to c.next.new.self.iter.rest.now) (sym c.push.ensures)
          (goes_on c.args.self.now c.args.start _ _ _ _ _ c.in-Some.ensures.steps c.loop-marks.invariant.2 c.in-Some-at.number some),
    )

pub loop-marks-preserved : goal.loop-marks-preserved
loop-marks-preserved c =
    let none : noted c.in-Some.marks.now c.loop-marks.at ≡ None = search rules in
    (tt, tt, stays c.args.self.now c.args.start _ _ _ _ _ c.in-Some.ensures.steps c.loop-marks.invariant.2 none)

pub returns : goal.returns
returns c = ended c.args.self.now c.args.start _ _ _ c.in-None.ensures.steps.0 c.loop-marks.invariant.2
