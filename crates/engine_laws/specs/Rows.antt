-- How far a program has come with the slots of a row, which are read from the places first to end - 1.
use Rattle.std.specs.Prelude.{◌≡◌, ℕ, ◌-◌, ◌/◌, List, length, Option}
use Rattle.model.specs.declared.Status.{Status}
use Rattle.model.specs.Issues.{Slot}
use Rattle.model.specs.Driving.{Machine, Examination, passed, examine}
use Rattle.model.specs.Codes.{gathered}
use Rattle.engine_laws.specs.Parts.{statuses, takens}
use Rattle.engine_laws.specs.Tracks.{Tracks}

-- the slots from a place on
abbrev pub slots_from : (ℕ → Option Slot) → ℕ → ℕ → List Slot
slots_from f end at = gathered f at (end - at)

module _ (units : ℕ → ℕ) (k trips c : ℕ) (f : ℕ → Option Slot) (end : ℕ) where
  -- What is left to examine, from the place `at` with the number n on, decides about the whole row of machine m; the tables follow another machine.
  pub record Reached (first : ℕ) (status : List Status) (taken : ℕ → ℕ → ℕ) (at n : ℕ) (m now : Machine ℕ) : Type 0 where
    pub follows : Tracks c status taken now.status now.taken
    pub cells : length now.memory ≡ length m.memory
    pub answer : examine units k trips c 0 (slots_from f end first) m ≡ examine units k trips c n (slots_from f end at) now
    pub statuses_left : statuses (slots_from f end first) m.status ≡ statuses (slots_from f end at) now.status
    pub takens_left : takens c (slots_from f end first) m.taken ≡ takens c (slots_from f end at) now.taken

-- The examination of a row, by the tables before and after it.
abbrev pub Examined : (ℕ → ℕ) → ℕ → ℕ → ℕ → ℕ → List Slot → List Status → (ℕ → ℕ → ℕ) → List Status → (ℕ → ℕ → ℕ) → Examination → Type 0
Examined units trips cells p c slots status taken status' taken' e =
    (k : ℕ) (m : Machine ℕ) → c / k ≡ p → length m.memory ≡ cells → Tracks c status taken m.status m.taken →
    (examine units k trips c 0 slots m ≡ e) × (e ≡ passed → Tracks c status' taken' (statuses slots m.status) (takens c slots m.taken))
