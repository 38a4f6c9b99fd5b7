use Rattle.search_laws.proofs.Steps.{pick_none, pick_step_placed, pick_step_open}
use Rattle.search.proofs.board.Board.pick.Goals as goal
use Rattle.search.proofs.board.Board.pick.Goals.{then-is_none, else-is_none}

pub loop-op-init : goal.loop-op-init
loop-op-init c = (pick_none _ _, tt)

pub loop-op-preserved : goal.loop-op-preserved
loop-op-preserved c = elim c.if-is_none.branch [
  | then-is_none w ↦ pick_step_open _ _ _ _ _ _ _ c.loop-op.invariant.0 c.at.ensures w.if-is_none.ensures w.higher-best.ensures.picked w.best-is w.higher-best.ensures.below
  | else-is_none w ↦ pick_step_placed _ _ _ _ _ _ c.loop-op.invariant.0 c.at.ensures w.if-is_none.ensures w.best-is c.loop-op.invariant.1
]
