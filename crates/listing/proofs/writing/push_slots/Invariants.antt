use Rattle.model.specs.Edges.{each}
use Rattle.listing.proofs.Appending.{Grown, issuing}
use Rattle.listing.proofs.writing.push_slots.Given as goal

abbrev pub invariant-loop-placed : goal.invariant-loop-placed
invariant-loop-placed g l = Grown l.initial.slots l.slots (each (issuing l.body g.S.Scheme.meaning l.place l.row) l.placed-index)
