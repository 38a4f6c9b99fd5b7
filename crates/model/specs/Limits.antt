-- What the code of the minimum and of the search takes.
use Rattle.std.specs.Prelude.{ℕ, ◌<◌, ◌≤◌, List, length, slice_index, slice_index_or}
use Rattle.std.specs.List.{AllByRecursion}
use Rattle.model.specs.Loop.{Hardware}
use Rattle.model.specs.declared.Edge.{Edge}
use Rattle.model.specs.declared.Timing.{Timing}

abbrev pub timing : List Timing → ℕ → Timing
timing us j = slice_index_or us j (record { class = 0; latency = 0; busy = 0 })

-- The machine as two lists: what each operation takes of it, and the units of each class.
abbrev pub hardware : List Timing → List ℕ → Hardware
hardware us units =
    record { latency = λ j. (timing us j).latency; class = λ j. (timing us j).class; busy = λ j. (timing us j).busy; units = λ u. slice_index units u }

-- An edge between two of the first n operations, with a delay up to 8 and a distance up to 7.
pub record EdgeFits (n : ℕ) (e : Edge) : Type 0 where
  pub from : e.from < n
  pub to : e.to < n
  pub delay : e.delay ≤ 8
  pub distance : e.distance ≤ 7

-- 1 to 32 operations and at most 65,535 edges.
pub record GraphFits (n : ℕ) (es : List Edge) : Type 0 where
  pub some : 0 < n
  pub few : n ≤ 32
  pub short : length es ≤ 65535
  pub each : AllByRecursion (EdgeFits n) es

-- A use of one of the classes, for 1 to 8 cycles.
pub record TimingFits (classes : ℕ) (u : Timing) : Type 0 where
  pub class : u.class < classes
  pub some : 1 ≤ u.busy
  pub short : u.busy ≤ 8

-- At most 8 classes, each with 1 to 8 units.
pub record MachineFits (us : List Timing) (units : List ℕ) : Type 0 where
  pub classes : length units ≤ 8
  pub each : AllByRecursion (TimingFits (length units)) us
  pub counts : AllByRecursion (λ c. (1 ≤ c) × (c ≤ 8)) units
