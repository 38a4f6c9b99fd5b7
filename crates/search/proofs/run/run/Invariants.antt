use Rattle.std.proofs.Common.{◌-◌, length}
use Rattle.search_laws.proofs.Steps.{Going}
use Rattle.search.specs.Tables.{hw_of}
use Rattle.search.specs.Boards.{height, Keeps, state_of}
use Rattle.search.proofs.run.run.Given as goal

abbrev pub invariant-loop : goal.invariant-loop
invariant-loop l =
    let k = l.fn.task in
    let t = l.fn.table in
    Going k.edges.now (hw_of k.timings.now t) (length k.timings.now) (height k) t.interval (state_of l.progress) (l.budget - l.counter) × Keeps k t l.progress.board
