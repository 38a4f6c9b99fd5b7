-- The issues of the code as the definitions have them.
use Rattle.std.specs.Prelude.{Some, None, Option}
use Rattle.model.specs.Loop as loops
use Rattle.model.specs.Codes.{CodeSource, immediate, named, CodeSlot}
use Rattle.code.specs.declared.issue.Source.{Source}
use Rattle.code.specs.declared.issue.Source.TheVariants.{Literal, Register}
use Rattle.operations.specs.declared.operation.Operation.{Operation}
use Rattle.operations.specs.Seen.{seen}
use Rattle.code.specs.declared.issue.Issue.{Issue}

abbrev pub source_seen : Source → CodeSource
source_seen (Literal z) = immediate z
source_seen (Register n) = named n

abbrev pub code_operation_seen : Operation Source → loops.Operation CodeSource
code_operation_seen o = seen source_seen o

abbrev pub slot_seen : Issue → CodeSlot
slot_seen i = record { operation = code_operation_seen i.operation; stage = i.stage; result = i.result }

-- what is fetched from a place
abbrev pub fetched : Option Issue → Option CodeSlot
fetched None = None
fetched (Some i) = Some (slot_seen i)
