use Rattle.std.proofs.Common.{◌≡◌, ℕ, ◌+◌, ◌/◌, ◌≤◌, length}
use Rattle.model.specs.Driving.{Machine}
use Rattle.engine_laws.specs.Tracks.{Tracks}
use Rattle.engine_laws.specs.Rows.{Reached}
use Rattle.engine_slots.specs.Rows.{slot_at, units_of}
use Rattle.engine_slots.specs.Boards.{taken_in}
use Rattle.engine_slots.proofs.board.Board.examine.Given as goal

abbrev pub invariant-loop-place : goal.invariant-loop-place
invariant-loop-place g l =
    (l.n + l.row.first ≤ l.place) ×
    ((k : ℕ) (m : Machine ℕ) → l.row.cycle / k ≡ l.row.pass → length m.memory ≡ l.bounds.cells → Tracks l.row.cycle l.initial.self.statuses.status (taken_in l.initial.self.units) m.status m.taken →
    (now : Machine ℕ) ×
    Reached (units_of l.program.held.hardware.now.units) k l.bounds.trips l.row.cycle
    (slot_at (g.S.Scheme.meaning l.program.scheme.now).resolve l.program.held.hardware.now.timings (g.C.Code.issued l.program.code.now) l.row.pass)
    l.row.end l.row.first l.self.statuses.status (taken_in l.self.units) l.place l.n m now)
