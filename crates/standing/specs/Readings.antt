-- What the reading of a text answers, and what stands then.
use Rattle.std.specs.Prelude.{◌≡◌, ℕ, true, List, Some, None, Ok, Err, Option, Result}
use Rattle.model.specs.Faults.{text_fault, on_err}
use Rattle.model.specs.MachineText.{Machine, read_machine}
use Rattle.model.specs.LoopText.{read_loop}
use Rattle.model.specs.Loop.{Loop}
use Rattle.model.specs.Soundness.{sound_machine, sound_loop}
use Rattle.guarantee.specs.Calls.{machine_in, with_machine, with_loop, not_standing}
use Rattle.standing.specs.declared.fault.PackFault.{PackFault}
use Rattle.standing.specs.declared.desk.Desk.{Desk}
use Rattle.standing.specs.Faults.{fault}
use Rattle.standing.specs.Seen.{standing_seen}

-- A machine text: the machine stands, and nothing else; or it is refused, and all is as it was.
abbrev pub ReadsMachine : Desk → Desk → List ℕ → Result (Unit {0}) PackFault → Type 0
ReadsMachine before after text (Ok u) =
    (m : Machine) × ((on_err text_fault (read_machine text) ≡ Ok m) × (standing_seen after.standing ≡ with_machine m) × (sound_machine m ≡ true))
ReadsMachine before after text (Err f) = (on_err text_fault (read_machine text) ≡ Err (fault f)) × (after ≡ before)

-- A loop text, where no machine stands and where one does.
abbrev pub ReadsLoopOn : Option Machine → Desk → Desk → List ℕ → Result (Unit {0}) PackFault → Type 0
ReadsLoopOn None before after text (Ok u) = ⊥
ReadsLoopOn None before after text (Err f) = (fault f ≡ not_standing) × (after ≡ before)
ReadsLoopOn (Some m) before after text (Ok u) =
    (ops : Loop) × ((on_err text_fault (read_loop text) ≡ Ok ops) × (standing_seen after.standing ≡ with_loop m ops) × (sound_machine m ≡ true) × (sound_loop ops ≡ true))
ReadsLoopOn (Some m) before after text (Err f) = (on_err text_fault (read_loop text) ≡ Err (fault f)) × (after ≡ before)

abbrev pub ReadsLoop : Desk → Desk → List ℕ → Result (Unit {0}) PackFault → Type 0
ReadsLoop before after text r = ReadsLoopOn (machine_in (standing_seen before.standing)) before after text r
