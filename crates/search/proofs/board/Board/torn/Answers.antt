use Rattle.std.proofs.Common.{rules}
use Rattle.search_laws.specs.Weights.{torn_by}
use Rattle.search.specs.Views.{weights_of}
use Rattle.search.specs.Boards.{placed_on}
use Rattle.search.proofs.Cells.{marks_more}
use Rattle.search.proofs.board.Board.torn.Goals as goal

pub loop-q-preserved : goal.loop-q-preserved
loop-q-preserved c =
    let b = c.args.self.now in (
      marks_more (torn_by (weights_of b.task.now.weights.now) (placed_on b) c.args.op) c.loop-q.marks c.loop-q.q c.is_torn.result (search rules) c.is_torn.ensures c.loop-q.invariant.0,
      search rules,
    )
