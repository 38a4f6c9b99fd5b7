use Rattle.reservation.proofs.Cells.{all_none}
use Rattle.reservation.proofs.time_table.TimeTable.empty.Goals as goal

pub returns : goal.returns
returns c = all_none 32
