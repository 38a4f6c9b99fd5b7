-- How the lent files and the tables stand to the driving machine, between two cycles and at the end.
use Rattle.std.specs.Prelude.{◌≡◌, ℕ, ◌+◌, List, Ok, Err, Result}
use Rattle.model.specs.Domains.{Domain}
use Rattle.model.specs.Plain.{nought}
use Rattle.model.specs.Issues.{Form}
use Rattle.model.specs.Driving.{Machine, Outcome, finished, stopped, cycle}
use Rattle.engine_laws.specs.Tracks.{Tracks}
use Rattle.engine_laws.specs.Dues.{Pending, Registers}
use Rattle.engine_slots.specs.declared.slot.Denial.{Denial}
use Rattle.engine_slots.specs.Boards.{taken_in}
use Rattle.engine.specs.declared.tables.Tables.{Tables}
use Rattle.engine_writes.specs.declared.waiting.Waiting.{Waiting}
use Rattle.engine_writes.specs.Files.{value_file, waiting_file}
use Rattle.engine_writes.specs.Lists.{lists_of}

module _ {V : Type 0} (dom : Domain V) where
  -- Memory and files are those of the machine, entry by entry.
  pub record Left (m : Machine V) (memory' values' : List V) (waiting' : List (Waiting V)) : Type 0 where
    pub memory : m.memory ≡ memory'
    pub values : m.values ≡ value_file (nought dom) values'
    pub waiting : m.waiting ≡ waiting_file (nought dom) waiting'

  -- Before cycle c the tables follow the machine.
  pub record Stands (file c : ℕ) (m : Machine V) (memory values : List V) (waiting : List (Waiting V)) (t : Tables) : Type 0 where
    pub left : Left m memory values waiting
    pub follows : Tracks c t.board.statuses.status (taken_in t.board.units) m.status m.taken
    pub pending : Pending file c m.status (waiting_file (nought dom) waiting) (lists_of t.dues)
    pub registers : Registers (lists_of t.dues) file

-- What a cycle answers.
abbrev pub outcome_of : {V : Type 0} → ℕ → Result (Unit {0}) Denial → Machine V → Outcome V
outcome_of c (Ok u) m = finished m
outcome_of c (Err d) m = stopped (record { question = d.question; cycle = c; slot = d.slot }) m

module _ {V : Type 0} (dom : Domain V) (units : ℕ → ℕ) (trips file : ℕ) where
  -- One cycle, with what was lent and the tables before and after it.
  abbrev pub Cycled : ℕ → ℕ → Form → Machine V → List V → List V → List (Waiting V) → Tables → Result (Unit {0}) Denial → Type 0
  Cycled k c form m memory values waiting t answer =
      (now : Machine V) × ((cycle dom units k trips c (form c) m ≡ outcome_of c answer now) × (Left dom now memory values waiting × (answer ≡ Ok tt → Stands dom file (c + 1) now memory values waiting t)))

  -- From whatever machine the files and tables stand for.
  abbrev pub CycleKept : ℕ → ℕ → Form → List V → List V → List (Waiting V) → Tables → List V → List V → List (Waiting V) → Tables → Result (Unit {0}) Denial → Type 0
  CycleKept k c form memory values waiting t memory' values' waiting' t' answer =
      (m : Machine V) → Stands dom file c m memory values waiting t → Cycled k c form m memory' values' waiting' t' answer
