use Rattle.reservation.proofs.Cells.{none_counted}
use Rattle.reservation.proofs.rows.Rows.new.Goals as goal

pub returns : goal.returns
returns c = λ u r. none_counted 8 256 u r
