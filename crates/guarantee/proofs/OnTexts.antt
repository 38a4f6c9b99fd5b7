-- A loop of an accepted text on the machine of one. Assumes nothing.
use Rattle.std.proofs.Common.{◌≡◌, ℕ, ◌<◌, ◌≤◌, true, length, pos, sym, refl, ap, ◌∙◌, subst}
use Rattle.std.proofs.lemmas.List.{get_or-map, length-map}
use Rattle.std.proofs.ByRecursion.{All-get_or}
use Rattle.model.specs.declared.Code.{Code}
use Rattle.model.specs.declared.Code.TheVariants.{Load, Store, Add, Sub, Mul, Move}
use Rattle.model.specs.declared.Timing.{Timing}
use Rattle.model.specs.Limits.{timing, TimingFits}
use Rattle.model.specs.Loop.{Loop, move, literal, op}
use Rattle.model.specs.MachineText.{Machine, code_number}
use Rattle.model.specs.Soundness.{sound_machine, sound_loop, code_of, timing_of, timings_of, units_of, hardware}
use Rattle.model.specs.SearchLaws.{OnMachine}
use Rattle.model.specs.ListingLaws.{ByCode}
use Rattle.text_laws.proofs.Formed.{well_formed, machine_fits}
use Rattle.guarantee.specs.Guarantees.{code_timings}

no_timing : Timing
no_timing = record { class = 0; latency = 0; busy = 0 }

-- what operation j takes of the machine is what its code does
at_operation : (m : Machine) (ops : Loop) (j : ℕ) → j < length ops → timing (timings_of m ops) j ≡ timing_of m (code_of (op ops j))
unfolding op
at_operation m ops j h = get_or-map (λ o. timing_of m (code_of o)) ops j (move (literal (pos 0))) (record { class = 0; latency = 0; busy = 0 }) h

-- the timings of the six codes, by their numbers
by_number : (m : Machine) (c : Code) → timing (code_timings m) (code_number c) ≡ timing_of m c
by_number m Load = refl
by_number m Store = refl
by_number m Add = refl
by_number m Sub = refl
by_number m Mul = refl
by_number m Move = refl

pub by_code : (m : Machine) (ops : Loop) → ByCode (code_timings m) ops (hardware m ops)
by_code m ops =
    let same : (j : ℕ) → j < length ops → timing (code_timings m) (code_number (code_of (op ops j))) ≡ timing (timings_of m ops) j =
    λ j h. by_number m (code_of (op ops j)) ∙ sym (at_operation m ops j h) in
    record {
      latency = λ j h. ap (λ t. t.latency) (same j h);
      class = λ j h. ap (λ t. t.class) (same j h);
      busy = λ j h. ap (λ t. t.busy) (same j h);
    }

pub on_machine : (m : Machine) (ops : Loop) → sound_machine m ≡ true → sound_loop ops ≡ true → OnMachine ops (hardware m ops) (length m.classes)
on_machine m ops e s =
    let fits = machine_fits m ops e in
    let long : length (units_of m) ≡ length m.classes = length-map m.classes (λ c. c.count) in
    record {
      formed = well_formed m ops e s;
      known = λ j h. subst (λ n. (timing (timings_of m ops) j).class < n) long
          (All-get_or (TimingFits (length (units_of m))) (timings_of m ops) j (record { class = 0; latency = 0; busy = 0 })
          (subst (λ n. j < n) (sym (length-map ops (λ o. timing_of m (code_of o)))) h) fits.each).class;
      some_units = λ u h. (All-get_or (λ c. (1 ≤ c) × (c ≤ 8)) (units_of m) u 0 (subst (λ n. u < n) (sym long) h) fits.counts).0;
    }
