-- The faults, computed.
use Rattle.std.proofs.Common.{refl}
use Rattle.model.specs.Plain.{evaluate, written}
use Rattle.model.specs.Issues.{iteration_in}
use Rattle.model.specs.Driving.{land, reserved, examine, issue, issue_all, cycle, run}
use Rattle.model.specs.WorkedFaults.{WorkedFaults}

pub worked : WorkedFaults
unfolding evaluate written iteration_in land reserved examine issue issue_all cycle run
worked = record {
  no_unit = refl;
  never_landed = refl;
  still_awaited = refl;
  too_early = refl;
  outside = refl;
  two_results = refl;
  first_no = refl;
  later = refl;
  lands = refl;
  loads_first = refl;
  too_late = refl;
}
