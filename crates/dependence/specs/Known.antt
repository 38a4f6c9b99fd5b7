-- Question 7 put to some operands, and what a call of the graph layer refuses.
use Rattle.std.specs.Prelude.{List, map, Some, None, Ok, Err, Option, Result}
use Rattle.model.specs.Questions.{Answer, Refusal, each}
use Rattle.model.specs.LoopText.{Use, Statement, known_use}
use Rattle.texts.specs.Faults.{refusal as text_refusal}
use Rattle.dependence.specs.declared.fault.GraphFault.{GraphFault}
use Rattle.dependence.specs.declared.fault.GraphFault.TheVariants.{Text, UnknownName}

abbrev pub uses_known : List Statement → List Use → Answer
uses_known ss us = each (map (known_use ss) us)

abbrev pub refusal : GraphFault → Refusal
refusal (Text f) = text_refusal f
refusal (UnknownName line column) = record { number = 7; line = line; column = Some column }

abbrev pub told : {X : Type 0} → Result X GraphFault → Option Refusal
told (Ok x) = None
told (Err f) = Some (refusal f)
