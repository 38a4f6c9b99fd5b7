-- The slots of the code as the definitions have them.
use Rattle.std.specs.Prelude.{ℕ, ◌<◌, ◌≤◌, List}
use Rattle.model.specs.declared.Timing.{Timing}
use Rattle.model.specs.Loop as loops
use Rattle.model.specs.Limits.{timing}
use Rattle.model.specs.Issues as issues
use Rattle.engine_slots.specs.declared.slot.Resolved.{Resolved}
use Rattle.engine_slots.specs.declared.slot.Resolved.TheVariants.{Literal, Register}
use Rattle.operations.specs.declared.operation.Operation.{Operation}
use Rattle.operations.specs.Seen.{seen, EachOwn}
use Rattle.engine_slots.specs.declared.slot.Slot.{Slot}

abbrev pub source_of : Resolved → issues.Source
source_of (Literal z) = issues.constant z
source_of (Register r) = issues.register r

abbrev pub operation_of : Operation Resolved → loops.Operation issues.Source
operation_of o = seen source_of o

abbrev pub slot_of : Slot → issues.Slot
slot_of s = record {
  operation = operation_of s.operation;
  stage = s.stage;
  target = s.target;
  latency = s.timing.latency;
  class = s.timing.class;
  busy = s.timing.busy;
}

-- A source in a file of so many registers.
abbrev pub SourceWithin : ℕ → Resolved → Type 0
SourceWithin file (Literal z) = Unit {0}
SourceWithin file (Register r) = r < file

abbrev pub OperationWithin : ℕ → Operation Resolved → Type 0
OperationWithin file o = EachOwn (SourceWithin file) o

-- What the machine's tables can follow: eight classes, and eight cycles ahead.
pub record TimingHeld (t : Timing) : Type 0 where
  pub class : t.class < 8
  pub latency : t.latency ≤ 8
  pub busy : t.busy ≤ 8

abbrev pub TimingsHeld : List Timing → Type 0
TimingsHeld timings = (j : ℕ) → TimingHeld (timing timings j)

-- A slot whose registers are in the file, and whose timing is held.
pub record SlotWithin (file : ℕ) (s : Slot) : Type 0 where
  pub operation : OperationWithin file s.operation
  pub target : s.target < file
  pub timing : TimingHeld s.timing
