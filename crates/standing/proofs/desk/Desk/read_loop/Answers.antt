use Rattle.std.proofs.Common.{vec_items}
use Rattle.texts.specs.Records.{machine_seen}
use Rattle.dependence.specs.Loops.{loop_seen}
use Rattle.standing.specs.Tied.{edges_in}
use Rattle.standing.proofs.Same.{edges_same}
use Rattle.standing.proofs.desk.Desk.read_loop.Goals as goal

-- the list is that of the loop's edges
pub invariant_of-self : goal.invariant_of-self
invariant_of-self c = record {
  tied = edges_same (vec_items c.build.new.self.list)
      (edges_in (record { machine = machine_seen c.in-Some.machine; ops = loop_seen c.in_ok-source.source })) c.build.ensures;
}
