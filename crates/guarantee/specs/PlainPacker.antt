-- THE PLAIN PACKER: the same calls, with the plain loop for a run. It keeps of a plan its schedule alone: the interval, and the times of the loop's operations, with 0 behind them.
use Rattle.std.specs.Prelude.{◌≡◌, ℕ, ◌<◌, ◌≤◌, ◌⊎◌, List, length, Some, None, Ok, Err, Option, Result}
use Rattle.model.specs.Faults.{Fault, text_fault, on_err}
use Rattle.model.specs.MachineText.{Machine, read_machine}
use Rattle.model.specs.LoopText.{read_loop}
use Rattle.model.specs.Soundness.{hardware}
use Rattle.model.specs.Loop.{Loop}
use Rattle.model.specs.Edges.{edges}
use Rattle.model.specs.Schedule.{Schedule}
use Rattle.model.specs.Lives.{Table}
use Rattle.model.specs.Domains.{Domain}
use Rattle.model.specs.Plain.{plain}
use Rattle.model.specs.Pipelining.{InMemory}
use Rattle.model.specs.Plan.{Plan, planned, refused, IsPlan}
use Rattle.schedule_laws.specs.Alike.{Tells}
use Rattle.guarantee.specs.Calls.{Buffers, Call, machine, loop, plan, expand, run, Standing, with_machine, with_loop, with_plan, with_listing, machine_in, Body, loop_in, PlannedBody, plan_in, ListedBody, listing_in, not_standing, no_schedule, many_trips, short_files, outside_memory}

-- What the plain packer replies: a call is done, a run leaves this memory, or a call is refused.
pub data Reply (V : Type 0) : Type 0 where
  done : Reply V
  leaves : List V → Reply V
  refuses : Fault → Reply V

-- A call before which s stands gets reply r, and then t stands.
module _ {V : Type 0} (s : Standing Schedule) (r : Reply V) (t : Standing Schedule) where
  -- It is refused and changes nothing; or it is done, and this stands.
  abbrev pub Refusal : Fault → Type 0
  Refusal f = (r ≡ refuses f) × (t ≡ s)

  abbrev pub Done : Standing Schedule → Type 0
  Done now = (r ≡ done) × (t ≡ now)

  -- By what the reading of a text answers.
  abbrev pub Read : {X : Type 0} → (X → Standing Schedule) → Result X Fault → Type 0
  Read now (Ok x) = Done (now x)
  Read now (Err f) = Refusal f

  -- Does what the call needs stand? (10)
  abbrev pub Needs : {X : Type 0} → Option X → (X → Type 0) → Type 0
  Needs None P = Refusal not_standing
  Needs (Some x) P = P x

  -- Was some interval's schedule, or the sequential one, taken by the register scheme? (8)
  abbrev pub ByPlan : Machine → Loop → Plan → Type 0
  ByPlan m ops (planned w steps) = (v : Schedule) × (Tells (length ops) v w × Done (with_plan m ops v))
  ByPlan m ops refused = Refusal no_schedule

  -- Is the trip count at most 4,096? (3)
  abbrev pub Expanding : ℕ → PlannedBody Schedule → Type 0
  Expanding trips b =
      (trips ≤ 4096 → Done (with_listing b.machine b.ops b.plan trips)) × (4096 < trips → Refusal many_trips)

-- With this domain, and for a register scheme that needs so much and has a file of this size.
module _ {V : Type 0} (dom : Domain V) (need : Table → ℕ) (file : ℕ) (s : Standing Schedule) where
  -- The plan of the search, from the minimum on.
  abbrev pub Planning : Reply V → Standing Schedule → Body → Type 0
  Planning r t b =
      let hw = hardware b.machine b.ops in
      (lowest : ℕ) × ((p : Plan) × (IsPlan b.ops (edges b.ops hw) hw (length b.machine.classes) need file lowest p × ByPlan s r t b.machine b.ops p))

  -- Are both files no shorter than the scheme's (11)? Are all cells of the iterations in memory (12)? Then the plain loop runs on it.
  pub record Running (b : Buffers V) (r : Reply V) (t : Standing Schedule) (l : ListedBody Schedule) : Type 0 where
    pub short : (length b.values < file) ⊎ (length b.waiting < file) → Refusal s r t short_files
    pub outside : file ≤ length b.values → file ≤ length b.waiting → (InMemory l.ops l.trips (length b.memory) → ⊥) → Refusal s r t outside_memory
    pub runs : file ≤ length b.values → file ≤ length b.waiting → InMemory l.ops l.trips (length b.memory) →
        (r ≡ leaves (plain dom l.ops l.trips b.memory).memory) × (t ≡ s)

  -- THE CALLS, each with its questions in order. What is accepted stands, in place of what it drops.
  abbrev pub PlainCall : Call V → Reply V → Standing Schedule → Type 0
  PlainCall (machine text) r t = Read s r t with_machine (on_err text_fault (read_machine text))
  PlainCall (loop text) r t = Needs s r t (machine_in s) (λ m. Read s r t (with_loop m) (on_err text_fault (read_loop text)))
  PlainCall plan r t = Needs s r t (loop_in s) (Planning r t)
  PlainCall (expand trips) r t = Needs s r t (plan_in s) (Expanding s r t trips)
  PlainCall (run b) r t = Needs s r t (listing_in s) (Running b r t)
