use Rattle.std.proofs.Common.{ℕ, ◌-◌, ◌<◌, slice_index}
use Rattle.model.specs.Schedule.{uses}
use Rattle.reservation.specs.Uses.{Repeated}
use Rattle.reservation.proofs.rows.change_class.Given as goal

abbrev pub invariant-loop-cycle : goal.invariant-loop-cycle
invariant-loop-cycle g l = (r : ℕ) → r < 256 →
    Repeated (goal.F-post g l.step) (uses l.uses.interval l.uses.time (l.cycle - l.uses.time) r) (slice_index l.initial.counts r) (slice_index l.counts r)
