use Rattle.std.proofs.Common.{◌≡◌, ℕ, ◌<◌, false, length, get_or}
use Rattle.model.specs.Search.{crowded}
use Rattle.search.specs.Boards.{size, hw, placed_on}
use Rattle.search.proofs.board.Board.crowded.Given as goal

abbrev pub invariant-loop-q : goal.invariant-loop-q
invariant-loop-q l =
    ((p : ℕ) → p < l.q → get_or l.marks p false ≡ crowded (hw l.self) l.self.table.interval (placed_on l.self) (size l.self) l.op l.time p) × (length l.marks ≡ 32)
