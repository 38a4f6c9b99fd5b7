use Rattle.std.proofs.Common.{◌≡◌, ℕ, ◌+◌, ◌-◌, ◌<◌, ◌≤◌}
use Rattle.engine_laws.specs.Tracks.{use_for}
use Rattle.engine_slots.specs.Boards.{taken_in}
use Rattle.engine_slots.proofs.units.Units.take.Given as goal

abbrev pub invariant-loop-y : goal.invariant-loop-y
invariant-loop-y l =
    (u y : ℕ) → u < 8 → l.cycle ≤ y → y < l.cycle + 8 →
    taken_in l.self u y ≡ taken_in l.initial.self u y + use_for u y l.cycle l.class (l.y - l.cycle)
