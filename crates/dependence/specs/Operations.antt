-- The operations of the code as the definitions have them.
use Rattle.std.specs.Prelude.{List, map}
use Rattle.model.specs.Loop.{Operand, literal, variable, Operation}
use Rattle.dependence.specs.declared.operation.Operand.{Operand as OwnOperand}
use Rattle.dependence.specs.declared.operation.Operand.TheVariants.{Literal, Variable}
use Rattle.operations.specs.declared.operation.Operation as own
use Rattle.operations.specs.Seen.{seen}

abbrev pub operand_seen : OwnOperand → Operand
operand_seen (Literal z) = literal z
operand_seen (Variable p d) = variable p d

abbrev pub OwnOperation : Type 0
OwnOperation = own.Operation OwnOperand

abbrev pub operation_seen : OwnOperation → Operation Operand
operation_seen o = seen operand_seen o

abbrev pub operations_seen : List OwnOperation → List (Operation Operand)
operations_seen os = map operation_seen os
