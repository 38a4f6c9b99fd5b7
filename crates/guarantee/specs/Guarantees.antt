-- THE GUARANTEE, of every call in every list of calls.
use Rattle.std.specs.Prelude.{◌≡◌, ℕ, ◌<◌, ◌≤◌, true, List, [], ◌∷◌, map, length, Some, None, Option, slice_index_or}
use Rattle.std.specs.List.{AllByRecursion}
use Rattle.model.specs.declared.Code.TheVariants.{Load, Store, Add, Sub, Mul, Move}
use Rattle.model.specs.declared.Timing.{Timing}
use Rattle.model.specs.MachineText.{Machine}
use Rattle.model.specs.Loop.{Loop, Hardware}
use Rattle.model.specs.Soundness.{sound_machine, sound_loop, hardware, timing_of}
use Rattle.model.specs.Edges.{EdgeMet, edges}
use Rattle.model.specs.Schedule.{Schedule, stages, row_uses, IsSchedule}
use Rattle.model.specs.Walks.{edge}
use Rattle.model.specs.Minimum.{IsMinimum, Evidence, by_class, by_circuit, IsEvidence}
use Rattle.model.specs.ScheduleLives.{lives_table}
use Rattle.model.specs.Schemes.{Meaning, Accepted}
use Rattle.model.specs.SchemeLaws.{Keeps}
use Rattle.model.specs.Domains.{Domain}
use Rattle.model.specs.Plain.{nought}
use Rattle.model.specs.Issues.{Form, cycles}
use Rattle.model.specs.Codes.{form_of}
use Rattle.model.specs.Driving as driving
use Rattle.model.specs.Driving.{Waiting}
use Rattle.model.specs.Pipelining.{before, Pipelined}
use Rattle.model.specs.Listing.{Slot, Listing, listing, slots_of, code_of_listing}
use Rattle.model.specs.SearchLaws.{SoundSchedule}
use Rattle.schedule_laws.specs.Alike.{IsPlanned}
use Rattle.guarantee.specs.Calls.{Buffers, Call, machine, loop, plan, expand, run, Standing, nothing, with_machine, with_loop, with_plan, with_listing, PlannedBody, plan_in, listing_in, Planned, State, Answer, accepted, planned, expanded, ran, refused}
use Rattle.guarantee.specs.PlainPacker.{Reply, done, leaves, refuses, PlainCall}

-- What the plain packer has of what stands, and of an answer: c is the call with the buffers that it leaves.
abbrev pub plainly : Standing Planned → Standing Schedule
plainly nothing = nothing
plainly (with_machine m) = with_machine m
plainly (with_loop m ops) = with_loop m ops
plainly (with_plan m ops p) = with_plan m ops p.schedule
plainly (with_listing m ops p trips) = with_listing m ops p.schedule trips

abbrev pub memory_of : {V : Type 0} → Call V → List V
memory_of (machine text) = []
memory_of (loop text) = []
memory_of plan = []
memory_of (expand trips) = []
memory_of (run b) = b.memory

abbrev pub reply : {V : Type 0} → Call V → Answer → Reply V
reply c accepted = done
reply c (planned p) = done
reply c (expanded parts) = done
reply c (ran n) = leaves (memory_of c)
reply c (refused f) = refuses f

-- NO DENSER PACKING. What is named excludes each smaller interval by itself: the class by its own rows, the circuit by its own edges.
abbrev pub Excludes : Loop → Hardware → ℕ → Evidence → Type 0
Excludes ops hw k (by_class u) =
    (w : Schedule) → 0 < w.interval → ((r : ℕ) → r < w.interval → row_uses ops hw w u r ≤ hw.units u) → k ≤ w.interval
Excludes ops hw k (by_circuit xs) =
    (w : Schedule) → AllByRecursion (λ x. EdgeMet w.time w.interval (edge (edges ops hw) x)) xs → k ≤ w.interval

-- Of a plan for a loop on its machine and a register scheme that means this much.
pub record PlanHolds (scheme : Meaning) (m : Machine) (ops : Loop) (p : Planned) : Type 0 where
  -- the minimum is the loop's, and what is named shows it
  pub minimum : IsMinimum (edges ops (hardware m ops)) (hardware m ops) (length ops) (length m.classes) p.minimum
  pub evidence : IsEvidence (edges ops (hardware m ops)) (hardware m ops) (length ops) (length m.classes) p.minimum p.evidence
  pub no_denser : (w : Schedule) → IsSchedule ops (hardware m ops) w → p.minimum ≤ w.interval
  pub excludes : Excludes ops (hardware m ops) p.minimum p.evidence
  -- the schedule is the plan's, after so many steps, and it is a schedule of at most eight stages
  pub searched : IsPlanned ops (edges ops (hardware m ops)) (hardware m ops) (length m.classes) scheme.need scheme.file p.minimum p.schedule p.steps
  pub sound : SoundSchedule ops (hardware m ops) searched.is.height scheme.need scheme.file p.minimum p.schedule p.steps
  pub stages : p.stages ≡ stages p.schedule (length ops)
  -- the scheme, as it is now, accepted its lives
  pub lives : Keeps scheme (lives_table ops (hardware m ops) p.schedule)
  pub turns : p.turns ≡ scheme.turns

-- The listing of a plan for so many trips, in the scheme's names.
abbrev pub listing_of : Meaning → Loop → Planned → ℕ → Listing
listing_of scheme ops p trips = listing ops p.schedule scheme.name p.turns trips

-- WHAT STANDS IS SOUND: accepted texts, a plan that holds, the listing's slots.
abbrev pub StandsSound : Meaning → List Slot → Standing Planned → Type 0
StandsSound scheme slots nothing = Unit {0}
StandsSound scheme slots (with_machine m) = sound_machine m ≡ true
StandsSound scheme slots (with_loop m ops) = (sound_machine m ≡ true) × (sound_loop ops ≡ true)
StandsSound scheme slots (with_plan m ops p) = (sound_machine m ≡ true) × (sound_loop ops ≡ true) × PlanHolds scheme m ops p
StandsSound scheme slots (with_listing m ops p trips) =
    (sound_machine m ≡ true) × (sound_loop ops ≡ true) × PlanHolds scheme m ops p × (trips ≤ 4096) × (slots ≡ slots_of (listing_of scheme ops p trips))

-- The timings of the six codes.
abbrev pub code_timings : Machine → List Timing
code_timings m = map (timing_of m) (Load ∷ Store ∷ Add ∷ Sub ∷ Mul ∷ Move ∷ [])

-- What the machine runs: the listing, its names resolved pass by pass.
abbrev pub listed_form : Meaning → Machine → Loop → Planned → ℕ → Form
listed_form scheme m ops p trips = form_of scheme.resolve (code_timings m) p.schedule.interval (code_of_listing (listing_of scheme ops p trips))

module _ {V : Type 0} (dom : Domain V) where
  -- The lent files, entry by entry.
  abbrev pub values_in : Buffers V → ℕ → V
  values_in b r = slice_index_or b.values r (nought dom)

  abbrev pub waiting_in : Buffers V → ℕ → Waiting V
  waiting_in b r = slice_index_or b.waiting r (record { due = 0; value = nought dom })

  -- The machine when the run of the listing has ended.
  abbrev pub machine_left : Meaning → Machine → Loop → Planned → ℕ → Buffers V → driving.Machine V
  machine_left scheme m ops p trips b =
      before dom ops (hardware m ops) p.schedule trips scheme.place b.memory (values_in b) (waiting_in b) (listed_form scheme m ops p trips)
      (cycles p.schedule (length ops) trips)

  -- A SOUND RUN of n cycles, from the buffers b to the buffers c. It is the driving machine's on the listing, and does what the pipelining theorem says:
  -- it ends without a fault, has units enough in every cycle, reads each value landed and not lost, works for iterations of the loop alone, and leaves the
  -- plain loop's memory.
  pub record SoundRun (scheme : Meaning) (m : Machine) (ops : Loop) (p : Planned) (trips : ℕ) (b c : Buffers V) (n : ℕ) : Type 0 where
    pub pipelined : Pipelined dom ops (hardware m ops) p.schedule trips scheme.place b.memory (values_in b) (waiting_in b) (listed_form scheme m ops p trips)
    pub takes : n ≡ cycles p.schedule (length ops) trips
    -- memory and files are the machine's, entry by entry, and as long as they were
    pub memory : c.memory ≡ (machine_left scheme m ops p trips b).memory
    pub values : (r : ℕ) → values_in c r ≡ (machine_left scheme m ops p trips b).values r
    pub waiting : (r : ℕ) → waiting_in c r ≡ (machine_left scheme m ops p trips b).waiting r
    pub values_long : length c.values ≡ length b.values
    pub waiting_long : length c.waiting ≡ length b.waiting

-- A call that reads a text.
abbrev pub ReadsText : {V : Type 0} → Call V → Type 0
ReadsText (machine text) = Unit {0}
ReadsText (loop text) = Unit {0}
ReadsText plan = ⊥
ReadsText (expand trips) = ⊥
ReadsText (run b) = ⊥

-- It stands, and this holds of it.
abbrev pub Present : {X : Type 0} → Option X → (X → Type 0) → Type 0
Present None P = ⊥
Present (Some x) P = P x

-- For a kind of register scheme, by what a scheme means and the places that it gives, and a domain.
module _ {S V : Type 0} (meaning : S → Meaning) (place : S → ℕ → ℕ → ℕ) (dom : Domain V) where
  -- The plan that is reported stands, and the scheme, as it was, accepted its lives.
  pub record ReportsPlan (s t : State S) (p : Planned) (b : PlannedBody Planned) : Type 0 where
    pub is : b.plan ≡ p
    pub accepts : Accepted (meaning s.scheme) (meaning t.scheme) (place t.scheme)
        (lives_table b.ops (hardware b.machine b.ops) p.schedule) p.turns

  -- WHAT IS REPORTED for the call c, from state s to state t; d is the call with the buffers that it leaves. What is refused changes nothing at all.
  abbrev pub Reports : State S → Call V → Answer → Call V → State S → Type 0
  Reports s c accepted d t = ReadsText c × (d ≡ c) × (t.scheme ≡ s.scheme) × (t.slots ≡ [])
  Reports s c (planned p) d t = (c ≡ plan) × (d ≡ c) × (t.slots ≡ []) × Present (plan_in t.stands) (ReportsPlan s t p)
  Reports s c (expanded parts) d t =
      (n : ℕ) × ((c ≡ expand n) × (d ≡ c) × (t.scheme ≡ s.scheme) × Present (listing_in t.stands) (λ l. parts ≡ (listing_of (meaning t.scheme) l.ops l.plan l.trips).parts))
  Reports s c (ran n) d t =
      (before_it after_it : Buffers V) ×
      ((c ≡ run before_it) × (d ≡ run after_it) × (t ≡ s) × Present (listing_in s.stands) (λ l. SoundRun dom (meaning s.scheme) l.machine l.ops l.plan l.trips before_it after_it n))
  Reports s c (refused f) d t = (d ≡ c) × (t ≡ s)

  -- What stands is sound, for the scheme as it is now.
  abbrev pub Sound : State S → Type 0
  Sound s = StandsSound (meaning s.scheme) s.slots s.stands

  -- THE GUARANTEE of one call.
  pub record Guaranteed (s : State S) (c : Call V) (a : Answer) (d : Call V) (t : State S) : Type 0 where
    -- the plain packer, fed the same call, replies the same, refusals and memory included, and the same schedule and trip count stand in it
    pub same : PlainCall dom (meaning s.scheme).need (meaning s.scheme).file (plainly s.stands) c (reply d a) (plainly t.stands)
    -- what is reported, how sound a run is, and that a refusal changes nothing
    pub reports : Reports s c a d t
    -- what stands then is sound: no denser packing than the minimum exists while a plan stands, and the listing is the plan's
    pub sound : Sound t
    -- the scheme needs what it needed and has as many registers
    pub need : (meaning t.scheme).need ≡ (meaning s.scheme).need
    pub file : (meaning t.scheme).file ≡ (meaning s.scheme).file
