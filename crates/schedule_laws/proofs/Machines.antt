-- A loop on its machine, from accepted texts.
use Rattle.std.proofs.Common.{◌≡◌, ◌≤◌, length, arith}
use Rattle.std.proofs.ByRecursion.{All-get_or}
use Rattle.std.proofs.lemmas.List.{length-map}
use Rattle.model.specs.Loop.{Loop}
use Rattle.model.specs.MachineText.{Machine}
use Rattle.model.specs.Soundness.{code_of, timing_of, timings_of, units_of}
use Rattle.model.specs.Limits.{MachineFits, TimingFits}
use Rattle.text_laws.proofs.Formed.{well_formed, machine_fits}
use Rattle.schedule_laws.specs.Laws.{OnMachines}

pub timings_count : (m : Machine) (ops : Loop) → length (timings_of m ops) ≡ length ops
timings_count m ops = length-map ops (λ o. timing_of m (code_of o))

pub units_count : (m : Machine) → length (units_of m) ≡ length m.classes
units_count m = length-map m.classes (λ c. c.count)

pub on_machines : OnMachines
on_machines m ops sm sl =
    let fits : MachineFits (timings_of m ops) (units_of m) = machine_fits m ops sm in
    record {
      formed = well_formed m ops sm sl;
      known = λ j h. omega (
        arith,
        (All-get_or (TimingFits (length (units_of m))) (timings_of m ops) j (record { class = 0; latency = 0; busy = 0 }) (omega (arith, timings_count m ops)) fits.each).class,
        units_count m,
      );
      some_units = λ u h. omega (arith, (All-get_or (λ c. (1 ≤ c) × (c ≤ 8)) (units_of m) u 0 (omega (arith, units_count m)) fits.counts).0);
    }
