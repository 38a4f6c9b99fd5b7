use Rattle.std.proofs.Common.{[], ◌∷◌}
use Rattle.model.specs.Edges.{each}
use Rattle.listing.specs.Kept.{Appended}
use Rattle.listing.specs.Rows.{slots_of_row}
use Rattle.listing.proofs.rows.Rows.push_pass.Given as goal

abbrev pub invariant-loop-row : goal.invariant-loop-row
invariant-loop-row g l = Appended l.initial.self l.self (each (λ r. slots_of_row l.body g.S.Scheme.meaning l.place r ∷ []) l.row)
