-- The packer's faults: number, layer, line and column, case by case.
use Rattle.model.specs.Faults.{Fault}
use Rattle.dependence.specs.Faults.{fault as graph_fault}
use Rattle.guarantee.specs.Calls.{not_standing, no_schedule, many_trips, short_files, outside_memory}
use Rattle.standing.specs.declared.fault.PackFault.{PackFault}
use Rattle.standing.specs.declared.fault.PackFault.TheVariants.{Graph, NotStanding, NoSchedule, ManyTrips, ShortFiles, OutsideMemory}

abbrev pub fault : PackFault → Fault
fault (Graph f) = graph_fault f
fault NotStanding = not_standing
fault NoSchedule = no_schedule
fault ManyTrips = many_trips
fault ShortFiles = short_files
fault OutsideMemory = outside_memory
