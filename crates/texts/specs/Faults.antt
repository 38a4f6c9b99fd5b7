-- The faults of a text as refusals: number, line and column, case by case.
use Rattle.std.specs.Prelude.{Some, None}
use Rattle.model.specs.Questions.{Refusal}
use Rattle.texts.specs.declared.fault.TextFault.{TextFault}
use Rattle.texts.specs.declared.fault.TextFault.TheVariants.{TooLong, Unprintable, NoForm, OutOfRange, WrongName, ManyClasses, CodeMissing, ManyOperations, NoOperation}

abbrev pub refusal : TextFault → Refusal
refusal TooLong = record { number = 1; line = 0; column = None }
refusal (Unprintable line) = record { number = 1; line = line; column = None }
refusal (NoForm line) = record { number = 2; line = line; column = None }
refusal (OutOfRange line column) = record { number = 3; line = line; column = Some column }
refusal (WrongName line column) = record { number = 4; line = line; column = Some column }
refusal (ManyClasses line) = record { number = 5; line = line; column = None }
refusal CodeMissing = record { number = 5; line = 0; column = None }
refusal (ManyOperations line) = record { number = 6; line = line; column = None }
refusal NoOperation = record { number = 6; line = 0; column = None }
