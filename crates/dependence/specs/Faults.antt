-- A graph fault's number, layer, line and column, case by case.
use Rattle.std.specs.Prelude.{Some}
use Rattle.model.specs.declared.Layer.TheVariants.{Text as TextLayer, Graph}
use Rattle.model.specs.Faults.{Fault}
use Rattle.texts.specs.Faults.{refusal}
use Rattle.dependence.specs.declared.fault.GraphFault.{GraphFault}
use Rattle.dependence.specs.declared.fault.GraphFault.TheVariants.{Text, UnknownName}

abbrev pub fault : GraphFault → Fault
fault (Text f) = record { number = (refusal f).number; layer = TextLayer; line = Some (refusal f).line; column = (refusal f).column }
fault (UnknownName line column) = record { number = 7; layer = Graph; line = Some line; column = Some column }
