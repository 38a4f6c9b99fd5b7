-- What the code of the plan rests on.
use Rattle.std.specs.Prelude.{◌≡◌, ℕ, ◌≤◌, true, List, length}
use Rattle.std.specs.List.{AllByRecursion}
use Rattle.model.specs.declared.Edge.{Edge}
use Rattle.model.specs.Loop.{Loop, Hardware}
use Rattle.model.specs.MachineText.{Machine}
use Rattle.model.specs.Soundness.{sound_machine, sound_loop, hardware}
use Rattle.model.specs.SearchLaws.{OnMachine}
use Rattle.model.specs.Minimum.{IsMinimum, IsHeight}
use Rattle.model.specs.Limits.{EdgeFits}
use Rattle.model.specs.Relaxation.{rounds}

abbrev pub OnMachines : Type 0
OnMachines = (m : Machine) (ops : Loop) → sound_machine m ≡ true → sound_loop ops ≡ true → OnMachine ops (hardware m ops) (length m.classes)

-- The heights at k are unique as a function.
abbrev pub RoundsAreHeights : Type 0
RoundsAreHeights = (es : List Edge) (hw : Hardware) (n classes lowest k : ℕ) → AllByRecursion (EdgeFits n) es → IsMinimum es hw n classes lowest → lowest ≤ k →
    ((u : ℕ) → IsHeight es k u (rounds k es n u)) × ((height : ℕ → ℕ) → ((u : ℕ) → IsHeight es k u (height u)) → height ≡ rounds k es n)
