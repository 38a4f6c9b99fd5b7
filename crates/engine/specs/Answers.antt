-- What a run answers, and what it leaves in memory and in the two files.
use Rattle.std.specs.Prelude.{◌≡◌, ℕ, ◌+◌, ◌^◌, Bool, cond, ◌&&◌, List, Ok, Err, Result, nat_le, nat_lt}
use Rattle.model.specs.declared.Timing.{Timing}
use Rattle.model.specs.Domains.{Domain}
use Rattle.model.specs.Plain.{nought}
use Rattle.model.specs.Limits.{timing}
use Rattle.model.specs.Issues.{Form}
use Rattle.model.specs.Driving as driving
use Rattle.model.specs.Driving.{Machine, fresh, Outcome, finished, stopped, standing, all_below, run}
use Rattle.engine.specs.declared.answer.Fault.{Fault}
use Rattle.engine.specs.declared.answer.Refusal.{Refusal}
use Rattle.engine.specs.declared.answer.Refusal.TheVariants.{Timing as BadTiming, Files, Cycles}
use Rattle.engine.specs.declared.answer.Halt.{Halt}
use Rattle.engine.specs.declared.answer.Halt.TheVariants.{Refused, Stopped}
use Rattle.engine.specs.declared.tables.Tables.{Tables}
use Rattle.engine_writes.specs.declared.waiting.Waiting.{Waiting}
use Rattle.engine_writes.specs.Files.{value_file, waiting_file}
use Rattle.engine.specs.Runs.{Left, Stands}

-- Eight classes, and at most 8 cycles.
abbrev pub timing_held : Timing → Bool
timing_held t = nat_lt t.class 8 && (nat_le t.latency 8 && nat_le t.busy 8)

-- A run of so many cycles begins, or is refused: by the timings, by the entries of the two files, or since due cycles would not fit 64 bits.
abbrev pub begins : List Timing → ℕ → ℕ → ℕ → ℕ → Result ℕ Refusal
begins timings file values waiting cycles =
    cond (all_below (λ j. timing_held (timing timings j)) 6)
    (cond (nat_le file values && nat_le file waiting) (cond (nat_lt (cycles + 8) (2 ^ 64)) (Ok cycles) (Err Cycles)) (Err Files))
    (Err BadTiming)

abbrev pub fault_of : driving.Fault → Fault
fault_of f = record { question = f.question; cycle = f.cycle; slot = f.slot }

-- the cycles, or the fault
abbrev pub ended : {V : Type 0} → ℕ → Outcome V → Result ℕ Halt
ended n (finished m) = Ok n
ended n (stopped f m) = Err (Stopped (fault_of f))

abbrev pub faulted : {V : Type 0} → Outcome V → Result (Unit {0}) Fault
faulted (finished m) = Ok tt
faulted (stopped f m) = Err (fault_of f)

module _ {V : Type 0} (dom : Domain V) where
  -- The machine at first, with what is lent.
  abbrev pub lent : List V → List V → List (Waiting V) → Machine V
  lent memory values waiting = fresh memory (value_file (nought dom) values) (waiting_file (nought dom) waiting)

  -- A refused run touches nothing. Any other ends as the machine does, and leaves what stands then.
  abbrev pub Driven : Result ℕ Refusal → Outcome V → List V → List V → List (Waiting V) → List V → List V → List (Waiting V) → Result ℕ Halt → Type 0
  Driven (Err x) outcome memory values waiting memory' values' waiting' r = (r ≡ Err (Refused x)) × (memory' ≡ memory) × (values' ≡ values) × (waiting' ≡ waiting)
  Driven (Ok n) outcome memory values waiting memory' values' waiting' r = (r ≡ ended n outcome) × Left dom (standing outcome) memory' values' waiting'

  -- the cycles of a run
  abbrev pub Ran : Outcome V → List V → List V → List (Waiting V) → Result (Unit {0}) Fault → Type 0
  Ran outcome memory' values' waiting' r = (r ≡ faulted outcome) × Left dom (standing outcome) memory' values' waiting'

  -- Before cycle c of a run that goes on.
  abbrev pub Running : (ℕ → ℕ) → ℕ → ℕ → ℕ → Form → Machine V → ℕ → List V → List V → List (Waiting V) → Tables → Type 0
  Running units k trips file form m₀ c memory values waiting t =
      (m : Machine V) × ((run dom units k trips form c m₀ ≡ finished m) × Stands dom file c m memory values waiting t)
