use Rattle.std.proofs.Common.{◌≡◌, ◌+◌, ◌≤◌, ◌&&◌, leb, length}
use Rattle.model.specs.Shapes.{every}
use Rattle.script.specs.Cells.{is_cell}
use Rattle.script.specs.Script.{words_of, cells_fit}
use Rattle.script.proofs.reading.cells_fit.Given as goal

abbrev pub invariant-loop-cell : goal.invariant-loop-cell
invariant-loop-cell l =
    let left = words_of l.cell-iterator.bytes.now in
    (l.n ≤ l.most) × ((every (is_cell l.domain) left && leb (l.n + length left) l.most) ≡ cells_fit l.domain l.most (words_of l.fn.cells.bytes.now))
