use Rattle.std.proofs.Common.{◌≡◌, ◌+◌, None, Some, refl, get_or, set, sym, ◌∙◌, ap, subst, arith, rules}
use Rattle.std.proofs.lemmas.List.{length-set}
use Rattle.model.specs.Walks.{edge}
use Rattle.bounds.specs.Noted.{noted}
use Rattle.bounds.specs.Passing.{Passed}
use Rattle.bounds.proofs.Marks.{no_marks}
use Rattle.bounds.proofs.Passing.{none_passed, repeats, passes, edge_there, stands_next, stands_within, comes_again}
use Rattle.bounds.proofs.graph.Graph.round_trip.Goals as goal

pub loop-place-init : goal.loop-place-init
loop-place-init c =
    let few = stands_within c.args.self.now c.args.start c.args.walk.now c.requires.inside c.requires.walk 0 in
    (search rules, passes c.args.self.now.edges.now c.args.start c.args.walk.now _ 0 (none_passed c.args.self.now.edges.now c.args.start c.args.walk.now) few (no_marks 32 c.args.start))

pub offset_bounds-self-number : goal.offset_bounds-self-number
offset_bounds-self-number c = let m = edge_there c.args.self.now c.args.start c.args.walk.now c.requires.inside c.requires.walk c.loop-place.place c.loop-place-test.true in search rules

pub bounds-self-number : goal.bounds-self-number
bounds-self-number c = edge_there c.args.self.now c.args.start c.args.walk.now c.requires.inside c.requires.walk c.loop-place.place c.loop-place-test.true

pub offset_bounds-walk-before : goal.offset_bounds-walk-before
offset_bounds-walk-before c = let m = (c.loop-place.invariant.1.placed _ c.in-Some.before c.in-Some.is).0 in search rules

pub slice_bounds-result-count : goal.slice_bounds-result-count
slice_bounds-result-count c = omega (arith, (c.loop-place.invariant.1.placed _ c.in-Some.before c.in-Some.is).0)

pub slice_bounds-result-start : goal.slice_bounds-result-start
slice_bounds-result-start c = omega (arith, (c.loop-place.invariant.1.placed _ c.in-Some.before c.in-Some.is).0)

pub returns-in-Some : goal.returns-in-Some
returns-in-Some c =
    let g = c.args.self.now in
    let at = stands_next g c.args.start c.args.walk.now c.requires.inside c.requires.walk c.loop-place.place c.loop-place-test.true in (
      c.in-Some.before,
      c.loop-place.place + 1,
      repeats g.edges.now c.args.start c.args.walk.now c.loop-place.passed (c.loop-place.place + 1) c.loop-place.invariant.1 c.in-Some.before
          (omega arith) (ap (noted c.loop-place.passed) (sym at) ∙ c.in-Some.is),
      refl,
    )

pub loop-place-preserved : goal.loop-place-preserved
loop-place-preserved c =
    let g = c.args.self.now in
    let at = stands_next g c.args.start c.args.walk.now c.requires.inside c.requires.walk c.loop-place.place c.loop-place-test.true in
    let few = stands_within g c.args.start c.args.walk.now c.requires.inside c.requires.walk (c.loop-place.place + 1) in
    let new : noted c.loop-place.passed (edge g.edges.now (get_or c.args.walk.now c.loop-place.place 0)).to ≡ None = search rules in (
      simp length-set c.loop-place.invariant.0,
      subst (λ v. Passed g.edges.now c.args.start c.args.walk.now (set c.loop-place.passed v (Some (c.loop-place.place + 1))) ((c.loop-place.place + 1) + 1)) (sym at)
          (passes g.edges.now c.args.start c.args.walk.now c.loop-place.passed (c.loop-place.place + 1) c.loop-place.invariant.1
          (omega (arith, few, c.loop-place.invariant.0)) (ap (noted c.loop-place.passed) (sym at) ∙ new)),
    )

pub unreachable-requires : goal.unreachable-requires
unreachable-requires c =
    comes_again c.args.self.now c.args.start c.args.walk.now c.requires.inside c.requires.walk c.requires.long
    (subst (λ n. Passed c.args.self.now.edges.now c.args.start c.args.walk.now c.loop-place.passed (n + 1)) (omega arith) c.loop-place.invariant.1).new
