use Rattle.bounds.specs.Paths.{numbers}
use Rattle.bounds.proofs.Trail.{Trail}
use Rattle.bounds.proofs.graph.Relaxation.best_walk.Given as goal

abbrev pub invariant-loop-marks : goal.invariant-loop-marks
invariant-loop-marks l =
    (goal.iterator-loop-marks).can_next l.marks-iterator × (goal.iterator-loop-marks).is_finite l.marks-iterator ×
    Trail l.self l.start (numbers l.path) l.at l.marks-iterator.iter.rest.now
