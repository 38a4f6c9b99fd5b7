use Rattle.std.proofs.Common.{◌≡◌, ◌≤◌, subst, arith}
use Rattle.std.proofs.lemmas.List.{length-take-le}
use Rattle.search_laws.specs.Counts.{Unmarked}
use Rattle.search_laws.proofs.Ties.{unmarked_none}
use Rattle.search.specs.Boards.{size, placed_on}
use Rattle.search.proofs.Boards.{same_still}
use Rattle.search.proofs.Cells.{unmarked_wider}
use Rattle.search.proofs.board.Board.remove_marked.Goals as goal

pub loop-op-init : goal.loop-op-init
loop-op-init c = (unmarked_none _ _, same_still _)

pub returns : goal.returns
returns c =
    let b = c.args.self.now in
    let marks = c.args.marks.now in
    let few : size b ≤ 32 = b.task.now.fitting.few in
    let end : c.loop-op.op ≡ size b = omega (arith, length-take-le (size b) marks (omega arith)) in
    record {
      time = unmarked_wider marks (size b) 32 (placed_on b) (placed_on c.loop-op.self) few b.sound.beyond
          (subst (λ n. Unmarked marks n (placed_on b) (placed_on c.loop-op.self)) end c.loop-op.invariant.0);
      same = c.loop-op.invariant.1;
    }
