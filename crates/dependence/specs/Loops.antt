-- The loop record as the definitions have it, and what its reading answers.
use Rattle.std.specs.Prelude.{Ok, Err, Result}
use Rattle.few.specs.Held.{held}
use Rattle.model.specs.Loop.{Loop}
use Rattle.model.specs.Faults.{Fault}
use Rattle.dependence.specs.declared.fault.GraphFault.{GraphFault}
use Rattle.dependence.specs.declared.loops.Loop.{Loop as OwnLoop}
use Rattle.dependence.specs.Faults.{fault}
use Rattle.dependence.specs.Operations.{operations_seen}

abbrev pub loop_seen : OwnLoop → Loop
loop_seen l = operations_seen (held l.body)

abbrev pub loop_answered : Result OwnLoop GraphFault → Result Loop Fault
loop_answered (Ok l) = Ok (loop_seen l)
loop_answered (Err f) = Err (fault f)
