use Rattle.std.proofs.Common.{◌≡◌, refl, arith, rules}
use Rattle.search.proofs.Boards.{placed, roomy_alike, weighed_then}
use Rattle.search.proofs.board.Board.place.Goals as goal

pub invariant_of-self : goal.invariant_of-self
invariant_of-self c =
    let b = c.args.self.now in
    let same : c.from.result ≡ c.args.time = search rules in
    let now = placed b.task.now.timings.now c.args.op c.args.time b.task.now.fitting c.requires.inside (omega arith) b.table c.book.new.self b.time c.put.new.self c.book.result
    c.requires.free b.sound c.requires.room (rw same at c.book.ensures) c.put.ensures in
    record { sound = now.1; alone = roomy_alike b.task.now.timings.now b.table c.book.new.self now.2 b.alone; weighed = weighed_then b c.book.new.self now.2 }

pub returns : goal.returns
returns c =
    let b = c.args.self.now in
    let same : c.from.result ≡ c.args.time = search rules in
    let now = placed b.task.now.timings.now c.args.op c.args.time b.task.now.fitting c.requires.inside (omega arith) b.table c.book.new.self b.time c.put.new.self c.book.result
    c.requires.free b.sound c.requires.room (rw same at c.book.ensures) c.put.ensures in
    record { time = now.0; same = record { task = refl; table = now.2 } }
