use Rattle.search_laws.specs.Counts.{Unmarked}
use Rattle.search.specs.Boards.{placed_on, Same}
use Rattle.search.proofs.board.Board.remove_marked.Given as goal

abbrev pub invariant-loop-op : goal.invariant-loop-op
invariant-loop-op l = Unmarked l.marks l.op (placed_on l.initial.self) (placed_on l.self) × Same l.initial.self l.self
