use Rattle.std.proofs.Common.{rules}
use Rattle.reservation.specs.Uses.{uses_of}
use Rattle.reservation.proofs.Cells.{class_changed}
use Rattle.reservation.proofs.rows.Rows.change.Goals as goal

pub returns : goal.returns
returns g c = λ u r hu hr. class_changed _ (uses_of c.args.uses.now) c.args.self.now.counts c.args.uses.now.class _ (search rules) c.change_class.ensures u r hr
