-- The five calls of a packer: what each is handed, what stands, and what is answered.
use Rattle.std.specs.Prelude.{ℕ, List, Some, None, Option}
use Rattle.model.specs.declared.Parts.{Parts}
use Rattle.model.specs.declared.Layer.TheVariants.{Plan as InPlan, Code as InCode}
use Rattle.model.specs.Faults.{Fault}
use Rattle.model.specs.MachineText.{Machine}
use Rattle.model.specs.Loop.{Loop}
use Rattle.model.specs.Schedule.{Schedule}
use Rattle.model.specs.Minimum.{Evidence}
use Rattle.model.specs.Driving.{Waiting}
use Rattle.model.specs.Listing.{Slot}

-- What a run is lent: a memory, a file of value entries and a file of waiting entries, of any length and whatever they hold.
pub record Buffers (V : Type 0) : Type 0 where
  pub memory : List V
  pub values : List V
  pub waiting : List (Waiting V)

-- A text of the machine, a text of a loop, a plan, a listing for so many trips, a run.
pub data Call (V : Type 0) : Type 0 where
  machine : List ℕ → Call V
  loop : List ℕ → Call V
  plan : Call V
  expand : ℕ → Call V
  run : Buffers V → Call V

-- What stands: a loop only with its machine, a plan only with its loop, a listing, by its trip count, only with its plan. P is what is kept of a plan.
pub data Standing (P : Type 0) : Type 0 where
  nothing : Standing P
  with_machine : Machine → Standing P
  with_loop : Machine → Loop → Standing P
  with_plan : Machine → Loop → P → Standing P
  with_listing : Machine → Loop → P → ℕ → Standing P

-- The machine that stands; the loop, with its machine; the plan, with both; the listing.
abbrev pub machine_in : {P : Type 0} → Standing P → Option Machine
machine_in nothing = None
machine_in (with_machine m) = Some m
machine_in (with_loop m ops) = Some m
machine_in (with_plan m ops p) = Some m
machine_in (with_listing m ops p trips) = Some m

pub record Body : Type 0 where
  pub machine : Machine
  pub ops : Loop

abbrev pub loop_in : {P : Type 0} → Standing P → Option Body
loop_in nothing = None
loop_in (with_machine m) = None
loop_in (with_loop m ops) = Some (record { machine = m; ops = ops })
loop_in (with_plan m ops p) = Some (record { machine = m; ops = ops })
loop_in (with_listing m ops p trips) = Some (record { machine = m; ops = ops })

pub record PlannedBody (P : Type 0) : Type 0 where
  pub machine : Machine
  pub ops : Loop
  pub plan : P

abbrev pub plan_in : {P : Type 0} → Standing P → Option (PlannedBody P)
plan_in nothing = None
plan_in (with_machine m) = None
plan_in (with_loop m ops) = None
plan_in (with_plan m ops p) = Some (record { machine = m; ops = ops; plan = p })
plan_in (with_listing m ops p trips) = Some (record { machine = m; ops = ops; plan = p })

pub record ListedBody (P : Type 0) : Type 0 where
  pub machine : Machine
  pub ops : Loop
  pub plan : P
  pub trips : ℕ

abbrev pub listing_in : {P : Type 0} → Standing P → Option (ListedBody P)
listing_in nothing = None
listing_in (with_machine m) = None
listing_in (with_loop m ops) = None
listing_in (with_plan m ops p) = None
listing_in (with_listing m ops p trips) = Some (record { machine = m; ops = ops; plan = p; trips = trips })

-- A plan as it is reported: the minimum and what excludes each smaller interval, the schedule, the steps of all intervals, its stages, and the turns of the
-- register scheme.
pub record Planned : Type 0 where
  pub minimum : ℕ
  pub evidence : Evidence
  pub schedule : Schedule
  pub steps : ℕ
  pub stages : ℕ
  pub turns : ℕ

-- A packer: what stands, its register scheme, and the slots of the listing that stands.
pub record State (S : Type 0) : Type 0 where
  pub stands : Standing Planned
  pub scheme : S
  pub slots : List Slot

-- What a call answers: machine and loop, that they are accepted; plan, the plan; expand, the passes of the listing's parts; run, its cycles.
pub data Answer : Type 0 where
  accepted : Answer
  planned : Planned → Answer
  expanded : Parts → Answer
  ran : ℕ → Answer
  refused : Fault → Answer

-- THE FAULTS of the calls, beside those of the texts.
-- 10: what the call needs does not stand.
abbrev pub not_standing : Fault
not_standing = record { number = 10; layer = InCode; line = None; column = None }

-- 8: the register scheme took no schedule.
abbrev pub no_schedule : Fault
no_schedule = record { number = 8; layer = InPlan; line = None; column = None }

-- 3: more than 4,096 trips.
abbrev pub many_trips : Fault
many_trips = record { number = 3; layer = InCode; line = None; column = None }

-- 11: a file is shorter than the register scheme's.
abbrev pub short_files : Fault
short_files = record { number = 11; layer = InCode; line = None; column = None }

-- 12: a cell of the loop is not in memory.
abbrev pub outside_memory : Fault
outside_memory = record { number = 12; layer = InCode; line = None; column = None }
