use Rattle.std.proofs.Common.{take}
use Rattle.search.proofs.Entries.{Woven}
use Rattle.search.proofs.weight_table.Weights.new.Given as goal

abbrev pub invariant-loop-edge : goal.invariant-loop-edge
invariant-loop-edge l = Woven l.interval (take l.edge-index l.edges) l.between
