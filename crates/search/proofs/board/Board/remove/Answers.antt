use Rattle.std.proofs.Common.{◌≡◌, refl, sym, ◌∙◌, arith, rules}
use Rattle.search.proofs.Boards.{removed, roomy_alike, weighed_then, placed_inside}
use Rattle.search.proofs.board.Board.remove.Goals as goal

pub invariant_of-self : goal.invariant_of-self
invariant_of-self c =
    let b = c.args.self.now in
    let at = sym c.at.ensures ∙ c.in-Some.is in
    let same : c.from.result ≡ c.in-Some.time = search rules in
    let now = removed b.task.now.timings.now c.args.op c.in-Some.time b.task.now.fitting (placed_inside b c.args.op c.in-Some.time at) (omega arith) b.table c.release.new.self b.time c.remove.new.self c.release.result
    at b.sound (rw same at c.release.ensures) c.remove.ensures in
    record { sound = now.1; alone = roomy_alike b.task.now.timings.now b.table c.release.new.self now.2 b.alone; weighed = weighed_then b c.release.new.self now.2 }

pub returns-in-Some : goal.returns-in-Some
returns-in-Some c =
    let b = c.args.self.now in
    let at = sym c.at.ensures ∙ c.in-Some.is in
    let same : c.from.result ≡ c.in-Some.time = search rules in
    let now = removed b.task.now.timings.now c.args.op c.in-Some.time b.task.now.fitting (placed_inside b c.args.op c.in-Some.time at) (omega arith) b.table c.release.new.self b.time c.remove.new.self c.release.result
    at b.sound (rw same at c.release.ensures) c.remove.ensures in
    record { time = now.0; same = record { task = refl; table = now.2 } }
