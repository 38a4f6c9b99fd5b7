-- What the search and the plan guarantee.
use Rattle.std.specs.Prelude.{◌≡◌, ℕ, ◌-◌, ◌*◌, ◌^◌, ◌<◌, ◌≤◌, true, false, length, is_some, Some, None, Option}
use Rattle.model.specs.Loop.{Loop, Hardware, total, WellFormed}
use Rattle.model.specs.Edges.{edges}
use Rattle.model.specs.Minimum.{IsMinimum}
use Rattle.model.specs.Schedule.{Schedule, stages, IsSchedule, FewStages, sequential}
use Rattle.model.specs.Lives.{Table, Limits}
use Rattle.model.specs.ScheduleLives.{lives_table}
use Rattle.model.specs.Search.{Times, pick, Outcome, found, failed, search}
use Rattle.model.specs.Plan.{Plan, planned, refused, at_interval, succeeds, IsPlan}

-- Of the first n: none where all are placed; else one that is not placed, of greatest height, the lowest number among equals.
abbrev pub Picked : (ℕ → ℕ) → Times → ℕ → Option ℕ → Type 0
Picked height time n None = (i : ℕ) → i < n → is_some (time i) ≡ true
Picked height time n (Some j) =
    (j < n) × (is_some (time j) ≡ false) ×
    ((i : ℕ) → i < n → is_some (time i) ≡ false → (height i ≤ height j) × (i < j → height i < height j))

abbrev pub PickIsHighest : Type 0
PickIsHighest = (height : ℕ → ℕ) (time : Times) (n : ℕ) → Picked height time n (pick height time n)

-- A loop as the texts give it, on a machine of so many classes.
pub record OnMachine (ops : Loop) (hw : Hardware) (classes : ℕ) : Type 0 where
  pub formed : WellFormed ops hw
  pub known : (j : ℕ) → j < length ops → hw.class j < classes
  pub some_units : (u : ℕ) → u < classes → 0 < hw.units u

-- What is found is a schedule, its times fit 16 bits, and no more steps were taken than there are; a failure took them all.
abbrev pub SoundSearch : Loop → Hardware → ℕ → Outcome → Type 0
SoundSearch ops hw k (found time taken) =
    IsSchedule ops hw (at_interval k time) × (k ≤ 256 → (j : ℕ) → j < length ops → time j < 2 ^ 16) × (taken ≤ 6 * length ops)
SoundSearch ops hw k (failed taken) = taken ≡ 6 * length ops

-- From the minimum on, whatever goes for the heights.
abbrev pub SearchIsSound : Type 0
SearchIsSound =
    (ops : Loop) (hw : Hardware) (classes lowest : ℕ) → OnMachine ops hw classes → IsMinimum (edges ops hw) hw (length ops) classes lowest →
    (height : ℕ → ℕ) (k : ℕ) → lowest ≤ k → SoundSearch ops hw k (search (edges ops hw) hw (length ops) height k)

-- The sequential schedule is a schedule of one stage, and its lives are within the limits of a table.
abbrev pub SequentialStands : Type 0
SequentialStands =
    (ops : Loop) (hw : Hardware) → WellFormed ops hw →
    IsSchedule ops hw (sequential ops hw) × (stages (sequential ops hw) (length ops) ≡ 1) × FewStages ops (sequential ops hw) ×
    ((sequential ops hw).interval ≤ 256) × Limits (lives_table ops hw (sequential ops hw))

-- Of a schedule that is planned after so many steps, from `lowest` on.
pub record SoundSchedule (ops : Loop) (hw : Hardware) (height : ℕ → ℕ → ℕ) (need : Table → ℕ) (file lowest : ℕ) (w : Schedule) (steps : ℕ) : Type 0 where
  pub is_schedule : IsSchedule ops hw w
  pub few_stages : FewStages ops w
  pub eight : stages w (length ops) ≤ 8
  pub some_stages : 1 ≤ stages w (length ops)
  -- the register scheme takes its lives, which are within the limits of a table
  pub taken : need (lives_table ops hw w) ≤ file
  pub limits : Limits (lives_table ops hw w)
  pub at_least : lowest ≤ w.interval
  pub at_most : w.interval ≤ total hw.latency (length ops)
  pub short : w.interval ≤ 256
  pub times : (j : ℕ) → j < length ops → w.time j < 2 ^ 16
  -- at no smaller interval did the search succeed
  pub earlier : (i : ℕ) → lowest ≤ i → i < w.interval →
      succeeds ops hw need file i (search (edges ops hw) hw (length ops) (height i) i) ≡ false
  pub steps_few : steps ≤ (total hw.latency (length ops) - lowest) * (6 * length ops)

-- Of a refusal: the search succeeded nowhere, and the register scheme does not take the sequential schedule.
pub record SoundRefusal (ops : Loop) (hw : Hardware) (height : ℕ → ℕ → ℕ) (need : Table → ℕ) (file lowest : ℕ) : Type 0 where
  pub not_taken : file < need (lives_table ops hw (sequential ops hw))
  pub nowhere : (i : ℕ) → lowest ≤ i → i < total hw.latency (length ops) →
      succeeds ops hw need file i (search (edges ops hw) hw (length ops) (height i) i) ≡ false

abbrev pub SoundPlan : (ops : Loop) (hw : Hardware) (height : ℕ → ℕ → ℕ) (need : Table → ℕ) (file lowest : ℕ) → Plan → Type 0
SoundPlan ops hw height need file lowest (planned w steps) = SoundSchedule ops hw height need file lowest w steps
SoundPlan ops hw height need file lowest refused = SoundRefusal ops hw height need file lowest

-- Every plan is sound, whatever the register scheme needs.
abbrev pub PlanIsSound : Type 0
PlanIsSound =
    (ops : Loop) (hw : Hardware) (classes : ℕ) (need : Table → ℕ) (file lowest : ℕ) (p : Plan) → OnMachine ops hw classes →
    (is : IsPlan ops (edges ops hw) hw classes need file lowest p) → SoundPlan ops hw is.height need file lowest p

-- There is a plan; and there is only one.
abbrev pub PlanEnds : Type 0
PlanEnds =
    (ops : Loop) (hw : Hardware) (classes : ℕ) (need : Table → ℕ) (file lowest : ℕ) → OnMachine ops hw classes →
    IsMinimum (edges ops hw) hw (length ops) classes lowest → (p : Plan) × IsPlan ops (edges ops hw) hw classes need file lowest p

abbrev pub PlanIsOne : Type 0
PlanIsOne =
    (ops : Loop) (hw : Hardware) (classes : ℕ) (need : Table → ℕ) (file l m : ℕ) (p q : Plan) →
    IsPlan ops (edges ops hw) hw classes need file l p → IsPlan ops (edges ops hw) hw classes need file m q → (l ≡ m) × (p ≡ q)

abbrev pub Succeeded : Plan → Type 0
Succeeded (planned w steps) = Unit {0}
Succeeded refused = ⊥

-- With a register scheme that takes the sequential schedule a plan always succeeds.
abbrev pub PlanSucceeds : Type 0
PlanSucceeds =
    (ops : Loop) (hw : Hardware) (classes : ℕ) (need : Table → ℕ) (file lowest : ℕ) (p : Plan) → OnMachine ops hw classes →
    IsPlan ops (edges ops hw) hw classes need file lowest p → need (lives_table ops hw (sequential ops hw)) ≤ file → Succeeded p
