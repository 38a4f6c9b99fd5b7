use Rattle.listing.specs.Kept.{Appended}
use Rattle.listing.specs.Rows.{rows_of_passes}
use Rattle.listing.proofs.rows.Rows.push_part.Given as goal

abbrev pub invariant-loop-written : goal.invariant-loop-written
invariant-loop-written g l = Appended l.initial.self l.self (rows_of_passes l.body g.S.Scheme.meaning l.part l.first l.written)
