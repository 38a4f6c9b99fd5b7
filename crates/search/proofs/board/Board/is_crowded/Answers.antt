use Rattle.std.proofs.Common.{sym, ◌∙◌, arith}
use Rattle.std.proofs.lemmas.Bool.{ne_eqb}
use Rattle.search_laws.proofs.Crowds.{other_class, not_there}
use Rattle.reservation.specs.Views.{count}
use Rattle.search.specs.Boards.{timings_of, size, hw, placed_on}
use Rattle.search.proofs.Boards.{crowds_is}
use Rattle.search.proofs.board.Board.is_crowded.Goals as goal

pub returns-in_default : goal.returns-in_default
returns-in_default c =
    let b = c.args.self.now in
    not_there (hw b) (size b) b.table.interval (placed_on b) (count b.table) b.table.positive b.table.small b.sound c.args.op c.args.time
    (b.task.now.fitting.class c.args.op c.requires.inside) c.args.other (sym c.at.ensures ∙ c.in_default.is)

pub returns-else-old-new : goal.returns-else-old-new
returns-else-old-new c =
    let b = c.args.self.now in
    ne_eqb _ _ c.if-old-new.false ∙
    other_class (hw b) (size b) b.table.interval (placed_on b) (count b.table) b.table.positive b.table.small b.sound c.args.op c.args.time
    (b.task.now.fitting.class c.args.op c.requires.inside) c.args.other c.if-old-new.false

pub returns-then-old-new : goal.returns-then-old-new
returns-then-old-new c =
    let b = c.args.self.now in
    crowds_is (timings_of b) b.table (placed_on b) b.task.now.fitting b.sound c.args.op c.requires.inside c.args.time c.args.other c.in-Some.from c.crowds.result
    c.requires.known (omega arith) (omega arith) c.if-old-new.true (sym c.at.ensures ∙ c.in-Some.is) (rw (c.from.ensures, c.from-then-old-new.ensures) at c.crowds.ensures)
