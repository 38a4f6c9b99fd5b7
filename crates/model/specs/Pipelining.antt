-- THE PIPELINING THEOREM: what the driving machine does on a schedule, beside the plain loop.
use Rattle.std.specs.Prelude.{◌≡◌, ℕ, zero, suc, ◌+◌, ◌-◌, ◌*◌, ◌/◌, ◌<◌, ◌≤◌, true, false, List, [], ◌∷◌, length, ◌≢◌}
use Rattle.std.specs.List.{AllByRecursion}
use Rattle.model.specs.Loop.{Loop, Operand, literal, variable, op, EachOperand, makes, Hardware, WellFormed}
use Rattle.model.specs.Schedule.{Schedule, stages, IsSchedule, FewStages}
use Rattle.model.specs.MemoryOrder.{Touches}
use Rattle.model.specs.Schemes.{Apart}
use Rattle.model.specs.ScheduleLives.{lives_table}
use Rattle.model.specs.Domains.{Domain}
use Rattle.model.specs.Plain.{plain}
use Rattle.model.specs.Issues.{Slot, Form, passes, cycles, issues, iteration_of, home_of, slot_of, issues_at}
use Rattle.model.specs.Driving.{Waiting, Machine, fresh, Outcome, finished, standing, passed, use_of, lands, land, examine, slot_iteration, slot_result, run, drive}
use Rattle.model.specs.Files.{made, last_issued, last_landed, value_entry, waiting_entry}

-- Every cell that iterations 0 to trips - 1 touch is one of the first `cells`.
abbrev pub InMemory : Loop → ℕ → ℕ → Type 0
InMemory ops trips cells = (j i x : ℕ) → j < length ops → i < trips → Touches (op ops j) i x → x < cells

-- In the cycles of the run a code form says what issues.
abbrev pub Means : Form → Loop → Hardware → Schedule → ℕ → (ℕ → ℕ → ℕ) → Type 0
Means form ops hw w trips place = (c : ℕ) → c < cycles w (length ops) trips → form c ≡ issues_at ops hw w trips (home_of ops place) c

-- A slot works in cycle c for an iteration of the loop.
abbrev pub InRange : ℕ → ℕ → ℕ → Slot → Type 0
InRange k trips c slot = (slot.stage ≤ c / k) × (slot_iteration k c slot < trips)

-- The units of class u that slots which issue in cycle c use in cycle y; and that all slots of the first c cycles use in it.
abbrev pub uses_of : ℕ → ℕ → ℕ → List Slot → ℕ
uses_of u y c [] = 0
uses_of u y c (slot ∷ slots) = use_of u y c slot + uses_of u y c slots

unfoldable pub in_use : Form → ℕ → ℕ → ℕ → ℕ
in_use form u y zero = 0
in_use form u y (suc c) = in_use form u y c + uses_of u y c (form c)

module _ {V : Type 0} (dom : Domain V) (ops : Loop) (hw : Hardware) (w : Schedule) (trips : ℕ) (place : ℕ → ℕ → ℕ)
    (memory : List V) (values : ℕ → V) (waiting : ℕ → Waiting V) (form : Form) where
  -- the run's first c cycles, and the machine before cycle c
  abbrev pub after : ℕ → Outcome V
  after c = run dom hw.units w.interval trips form c (fresh memory values waiting)

  abbrev pub before : ℕ → Machine V
  before c = standing (after c)

  -- In cycle c an operand of iteration i finds, in its register, the very instance that it means: that is the last that landed there.
  abbrev pub ReadsRight : ℕ → ℕ → Operand → Type 0
  ReadsRight c i (literal z) = Unit {0}
  ReadsRight c i (variable p d) = d ≤ i →
      (last_landed ops hw w trips (home_of ops place) (home_of ops place p (i - d)) (suc c) ≡ made p (i - d)) ×
      ((land c (before c)).values (home_of ops place p (i - d)) ≡ (plain dom ops trips memory).value p (i - d))

  pub record Pipelined : Type 0 where
    -- The run ends, and in no cycle is a question answered no.
    pub ends : drive dom hw.units w.interval trips form (passes w (length ops) trips) (fresh memory values waiting) ≡
        finished (before (cycles w (length ops) trips))
    pub no_fault : (c : ℕ) → c < cycles w (length ops) trips →
        (after c ≡ finished (before c)) × (examine hw.units w.interval trips c 0 (form c) (land c (before c)) ≡ passed)
    -- At the end the memory is the plain loop's.
    pub same_memory : (before (cycles w (length ops) trips)).memory ≡ (plain dom ops trips memory).memory
    -- Each operand reads the instance that it means, and each slot makes the plain loop's value.
    pub right_reads : (c j : ℕ) → c < cycles w (length ops) trips → j < length ops → issues w trips j c ≡ true →
        EachOperand (ReadsRight c (iteration_of w j c)) (op ops j)
    pub right_results : (c j : ℕ) → c < cycles w (length ops) trips → j < length ops → issues w trips j c ≡ true →
        slot_result dom w.interval c (slot_of ops hw w (home_of ops place) c j) (land c (before c)) ≡
        (plain dom ops trips memory).value j (iteration_of w j c)
    -- In no cycle y are more units of a class in use than it has, which is also what the machine counts; and every slot works for an iteration of the loop.
    pub units_suffice : (c u y : ℕ) → c ≤ cycles w (length ops) trips → in_use form u y c ≤ hw.units u
    pub units_counted : (c u y : ℕ) → c ≤ cycles w (length ops) trips → (before c).taken u y ≡ in_use form u y c
    pub in_range : (c : ℕ) → c < cycles w (length ops) trips → AllByRecursion (InRange w.interval trips c) (form c)
    -- How long it takes.
    pub no_cycles : trips ≡ 0 → cycles w (length ops) trips ≡ 0
    pub all_cycles : 0 < trips → cycles w (length ops) trips ≡ (trips + stages w (length ops) - 1) * w.interval
    -- A value entry changes only at a landing, a waiting entry only at an issue.
    pub values_change : (c r : ℕ) → c < cycles w (length ops) trips → lands c (before c) r ≡ false → (before (suc c)).values r ≡ (before c).values r
    pub waiting_changes : (c r : ℕ) → c < cycles w (length ops) trips →
        AllByRecursion (λ slot. makes slot.operation ≡ true → slot.target ≢ r) (form c) → (before (suc c)).waiting r ≡ (before c).waiting r
    -- Before each cycle, and so at the end, the files hold the last landed and the last issued instances, or what was there.
    pub values_are : (c r : ℕ) → c ≤ cycles w (length ops) trips →
        (before c).values r ≡ value_entry hw w (plain dom ops trips memory).value (values r) (last_landed ops hw w trips (home_of ops place) r c)
    pub waiting_are : (c r : ℕ) → c ≤ cycles w (length ops) trips →
        (before c).waiting r ≡ waiting_entry hw w (plain dom ops trips memory).value (waiting r) (last_issued ops hw w trips (home_of ops place) r c)

-- At most eight stages, by the greatest stage and by the times.
abbrev pub StagesByTimes : Type 0
StagesByTimes = (ops : Loop) (w : Schedule) → 0 < w.interval →
    (stages w (length ops) ≤ 8 → FewStages ops w) × (FewStages ops w → stages w (length ops) ≤ 8)

-- For every domain, loop and machine, every schedule of at most eight stages, every place function that keeps the law of places for its lives, every
-- trip count, every memory that holds the cells, whatever the files hold, and every code form that means what issues.
abbrev pub Pipelining : Type 0 → Type 0
Pipelining V =
    (dom : Domain V) (ops : Loop) (hw : Hardware) (w : Schedule) (trips : ℕ) (place : ℕ → ℕ → ℕ)
    (memory : List V) (values : ℕ → V) (waiting : ℕ → Waiting V) (form : Form) →
    WellFormed ops hw →
    IsSchedule ops hw w →
    FewStages ops w →
    Apart (lives_table ops hw w) place →
    InMemory ops trips (length memory) →
    Means form ops hw w trips place →
    Pipelined dom ops hw w trips place memory values waiting form
