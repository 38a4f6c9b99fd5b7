use Rattle.std.proofs.Common.{◌≡◌}
use Rattle.model.specs.Search.{pick}
use Rattle.search_laws.specs.Bounded.{Under}
use Rattle.search.specs.Boards.{height, placed_on}
use Rattle.search.proofs.board.Board.pick.Given as goal

abbrev pub invariant-loop-op : goal.invariant-loop-op
invariant-loop-op l = (l.best ≡ pick (height l.self.task.now) (placed_on l.self) l.op) × Under l.op l.best
