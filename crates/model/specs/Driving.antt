-- The driving machine: it runs what a code form says of each cycle.
use Rattle.std.specs.Prelude.{ℕ, zero, suc, ◌+◌, ◌-◌, ◌*◌, ◌/◌, Bool, true, false, cond, not, ◌&&◌, ◌||◌, ltb, List, [], ◌∷◌, length, ◌==◌, nat_le, nat_lt}
use Rattle.model.specs.Loop.{operands, makes, in_memory, stride_of, offset_of, cell}
use Rattle.model.specs.Domains.{Domain}
use Rattle.model.specs.Plain.{written, evaluate}
use Rattle.model.specs.Issues.{Source, constant, register, Slot, Form, iteration_in}
use Rattle.model.specs.declared.Status.{Status}
use Rattle.model.specs.declared.Status.TheVariants.{Never, Waits, Landed}
use Rattle.model.specs.declared.Question.{Question}
use Rattle.model.specs.declared.Question.TheVariants.{UnitFree, OperandsLanded, IterationRuns, CellInMemory, ResultFree}

-- A waiting entry: of the last write that was issued to a register, the due cycle and the value.
pub record Waiting (V : Type 0) : Type 0 where
  pub due : ℕ
  pub value : V

-- The memory, the two files, what each register awaits, and the units of each class that are taken in each cycle.
pub record Machine (V : Type 0) : Type 0 where
  pub memory : List V
  pub values : ℕ → V
  pub waiting : ℕ → Waiting V
  pub status : ℕ → Status
  pub taken : ℕ → ℕ → ℕ

-- At first no register has landed or awaits a write, whatever the files hold.
abbrev pub fresh : {V : Type 0} → List V → (ℕ → V) → (ℕ → Waiting V) → Machine V
fresh memory values waiting =
    record { memory = memory; values = values; waiting = waiting; status = λ _. Never; taken = λ _ _. 0 }

-- A no stops the run: the question, the cycle, and the number of the slot in its row.
pub record Fault : Type 0 where
  pub question : Question
  pub cycle : ℕ
  pub slot : ℕ

-- How a run ends, and what stands then.
pub data Outcome (V : Type 0) : Type 0 where
  finished : Machine V → Outcome V
  stopped : Fault → Machine V → Outcome V

-- All questions about a row were answered yes, or the first no was to this question about this slot.
pub data Examination : Type 0 where
  passed : Examination
  failed : Question → ℕ → Examination

abbrev pub ask : Question → ℕ → Bool → Examination → Examination
ask q n true rest = rest
ask q n false rest = failed q n

abbrev pub awaits : Status → Bool
awaits Never = false
awaits Waits = true
awaits Landed = false

abbrev pub has_landed : Status → Bool
has_landed Never = false
has_landed Waits = false
has_landed Landed = true

abbrev pub put : {X : Type 0} → ℕ → X → (ℕ → X) → ℕ → X
put r x f q = cond (q == r) x (f q)

-- p holds of each number below n; of each element.
abbrev pub all_below : (ℕ → Bool) → ℕ → Bool
all_below p zero = true
all_below p (suc n) = all_below p n && p n

abbrev pub all_of : {A : Type 0} → (A → Bool) → List A → Bool
all_of p [] = true
all_of p (x ∷ xs) = p x && all_of p xs

-- A slot that issues in cycle c uses a unit of class u in cycle y, or not: 1 or 0.
abbrev pub use_of : ℕ → ℕ → ℕ → Slot → ℕ
use_of u y c slot = cond (slot.class == u && (nat_le c y && nat_lt y (c + slot.busy))) 1 0

abbrev pub source_value : {V : Type 0} → Domain V → (ℕ → V) → Source → V
source_value dom values (constant z) = dom.of_literal z
source_value dom values (register r) = values r

module _ {V : Type 0} where
  -- 1. DUE WRITES LAND.
  abbrev pub lands : ℕ → Machine V → ℕ → Bool
  lands c m r = awaits (m.status r) && (m.waiting r).due == c

  unfoldable pub land : ℕ → Machine V → Machine V
  land c m = record {
    memory = m.memory;
    values = λ r. cond (lands c m r) (m.waiting r).value (m.values r);
    waiting = m.waiting;
    status = λ r. cond (lands c m r) Landed (m.status r);
    taken = m.taken;
  }

  -- A slot takes its unit, and its result register awaits a write.
  unfoldable pub reserved : ℕ → Slot → Machine V → Machine V
  reserved c slot m = record {
    memory = m.memory;
    values = m.values;
    waiting = m.waiting;
    status = cond (makes slot.operation) (put slot.target Waits m.status) m.status;
    taken = λ u y. m.taken u y + use_of u y c slot;
  }

  -- 2. THE QUESTIONS, in cycle c, about a slot.
  -- A unit of its class is free in this cycle and the further cycles of its busy time.
  abbrev pub unit_free : (ℕ → ℕ) → ℕ → Slot → Machine V → Bool
  unit_free units c slot m = all_below (λ b. ltb (m.taken slot.class (c + b)) (units slot.class)) slot.busy

  -- Each register that it reads has landed and awaits no write.
  abbrev pub readable : Machine V → Source → Bool
  readable m (constant z) = true
  readable m (register r) = has_landed (m.status r)

  abbrev pub operands_landed : Slot → Machine V → Bool
  operands_landed slot m = all_of (readable m) (operands slot.operation)

  -- Its cell in iteration i, if it has one, is in memory.
  abbrev pub cell_in_memory : ℕ → Slot → Machine V → Bool
  cell_in_memory i slot m =
      not (in_memory slot.operation) || nat_lt (cell (stride_of slot.operation) (offset_of slot.operation) i) (length m.memory)

  -- Its result register, if it has one, awaits no write.
  abbrev pub result_free : Slot → Machine V → Bool
  result_free slot m = not (makes slot.operation) || not (awaits (m.status slot.target))

-- The iteration of a slot in cycle c at interval k.
abbrev pub slot_iteration : ℕ → ℕ → Slot → ℕ
slot_iteration k c slot = iteration_in k slot.stage c

-- The third question: its iteration, in pass p, is 0 to trips - 1.
abbrev pub iteration_runs : ℕ → ℕ → Slot → Bool
iteration_runs p trips slot = nat_le slot.stage p && nat_lt (p - slot.stage) trips

-- The slots of a row in order, from number n on: to those behind it a slot counts as having taken its unit and as awaiting its result.
module _ {V : Type 0} (units : ℕ → ℕ) (k trips : ℕ) where
  unfoldable pub examine : ℕ → ℕ → List Slot → Machine V → Examination
  examine c n [] m = passed
  examine c n (slot ∷ slots) m =
      ask UnitFree n (unit_free units c slot m)
      (ask OperandsLanded n (operands_landed slot m)
      (ask IterationRuns n (iteration_runs (c / k) trips slot)
      (ask CellInMemory n (cell_in_memory (slot_iteration k c slot) slot m)
      (ask ResultFree n (result_free slot m)
      (examine c (suc n) slots (reserved c slot m))))))

module _ {V : Type 0} (dom : Domain V) (k : ℕ) where
  -- What a slot loads, computes or stores, by the machine that it sees.
  abbrev pub slot_result : ℕ → Slot → Machine V → V
  slot_result c slot seen = evaluate dom (source_value dom seen.values) slot.operation (slot_iteration k c slot) seen.memory

  -- 3 AND 4. A slot sees the machine before the row and changes another: its result begins to wait, or its store writes.
  unfoldable pub issue : ℕ → Slot → Machine V → Machine V → Machine V
  issue c slot seen m = record {
    memory = written slot.operation (slot_iteration k c slot) (slot_result c slot seen) m.memory;
    values = m.values;
    waiting = cond (makes slot.operation) (put slot.target (record { due = c + slot.latency; value = slot_result c slot seen }) m.waiting) m.waiting;
    status = (reserved c slot m).status;
    taken = (reserved c slot m).taken;
  }

  -- the slots of a row, in order
  unfoldable pub issue_all : ℕ → List Slot → Machine V → Machine V → Machine V
  issue_all c [] seen m = m
  issue_all c (slot ∷ slots) seen m = issue_all c slots seen (issue c slot seen m)

-- A cycle, after its landings: a no leaves the machine as it was before the row.
abbrev pub settled : {V : Type 0} → ℕ → Examination → Machine V → Machine V → Outcome V
settled c passed before after = finished after
settled c (failed question n) before after = stopped (record { question = question; cycle = c; slot = n }) before

-- What stands at the end of a run.
abbrev pub standing : {V : Type 0} → Outcome V → Machine V
standing (finished m) = m
standing (stopped f m) = m

-- A run that has not stopped goes on.
abbrev pub go_on : {V : Type 0} → (Machine V → Outcome V) → Outcome V → Outcome V
go_on f (finished m) = f m
go_on f (stopped e m) = stopped e m

module _ {V : Type 0} (dom : Domain V) (units : ℕ → ℕ) (k trips : ℕ) where
  -- One cycle: landings, questions, and then reads, issues and stores.
  unfoldable pub cycle : ℕ → List Slot → Machine V → Outcome V
  cycle c slots m = let seen = land c m in settled c (examine units k trips c 0 slots seen) seen (issue_all dom k c slots seen seen)

  -- The first cycles of the run, so many.
  unfoldable pub run : Form → ℕ → Machine V → Outcome V
  run form zero m = finished m
  run form (suc c) m = go_on (cycle c (form c)) (run form c m)

  -- THE RUN of a code form of so many passes: each pass has k cycles. A write that is due in the cycle behind the last does not land.
  abbrev pub drive : Form → ℕ → Machine V → Outcome V
  drive form passes m = run form (passes * k) m
