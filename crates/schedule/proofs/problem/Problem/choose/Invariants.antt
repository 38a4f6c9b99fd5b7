use Rattle.std.proofs.Common.{◌≡◌, ◌-◌, ◌*◌, ◌≤◌}
use Rattle.schedule.proofs.Plans.{Reached}
use Rattle.schedule.proofs.problem.Problem.choose.Given as goal

abbrev pub invariant-loop-interval : goal.invariant-loop-interval
invariant-loop-interval g l =
    (l.scheme ≡ l.initial.scheme) × (l.steps ≤ 192 * (l.interval - l.self.minimum.value))
    × Reached g.S.Scheme.meaning g.S.Scheme.place l.self l.self.minimum.value l.initial.scheme l.interval l.steps
