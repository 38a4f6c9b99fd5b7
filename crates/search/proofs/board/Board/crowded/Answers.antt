use Rattle.std.proofs.Common.{rules}
use Rattle.model.specs.Search.{crowded}
use Rattle.search.specs.Boards.{size, hw, placed_on}
use Rattle.search.proofs.Cells.{marks_more}
use Rattle.search.proofs.board.Board.crowded.Goals as goal

pub loop-q-preserved : goal.loop-q-preserved
loop-q-preserved c =
    let b = c.args.self.now in (
      marks_more (crowded (hw b) b.table.interval (placed_on b) (size b) c.args.op c.args.time) c.loop-q.marks c.loop-q.q c.is_crowded.result (search rules) c.is_crowded.ensures c.loop-q.invariant.0,
      search rules,
    )
