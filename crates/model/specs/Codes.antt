-- Code as it is written: over names of registers. A register scheme resolves them in the pass in which they issue.
use Rattle.std.specs.Prelude.{ℕ, zero, suc, ◌/◌, ◌%◌, List, [], ◌∷◌, map, ℤ, Some, None, Option}
use Rattle.model.specs.declared.Timing.{Timing}
use Rattle.model.specs.Loop.{Operation, on_operands}
use Rattle.model.specs.Limits.{timing}
use Rattle.model.specs.MachineText.{code_number}
use Rattle.model.specs.Soundness.{code_of}
use Rattle.model.specs.Issues.{Source, constant, register, Slot, Form}

-- Where an operand comes from, as code says it: a number that stands in the code, or a register by its name.
pub data CodeSource : Type 0 where
  immediate : ℤ → CodeSource
  named : ℕ → CodeSource

-- One operation as code says it, for the iteration pass - stage; and the name of its result, if it makes a value.
pub record CodeSlot : Type 0 where
  pub operation : Operation CodeSource
  pub stage : ℕ
  pub result : Option ℕ

-- Code says of each pass and each row of it which slots issue, in order.
abbrev pub CodeRows : Type 0
CodeRows = ℕ → ℕ → List CodeSlot

-- The timing of an operation, by its code.
abbrev pub timing_by : {A : Type 0} → List Timing → Operation A → Timing
timing_by timings o = timing timings (code_number (code_of o))

module _ (resolve : ℕ → ℕ → ℕ) (p : ℕ) where
  -- the register of a name in pass p
  abbrev pub source_in : CodeSource → Source
  source_in (immediate z) = constant z
  source_in (named n) = register (resolve n p)

  abbrev pub target_in : Option ℕ → ℕ
  target_in None = 0
  target_in (Some n) = resolve n p

-- A slot of the code as it issues in pass p.
module _ (resolve : ℕ → ℕ → ℕ) (timings : List Timing) where
  abbrev pub slot_in : ℕ → CodeSlot → Slot
  slot_in p s = record {
    operation = on_operands (source_in resolve p) s.operation;
    stage = s.stage;
    target = target_in resolve p s.result;
    latency = (timing_by timings s.operation).latency;
    class = (timing_by timings s.operation).class;
    busy = (timing_by timings s.operation).busy;
  }

  -- THE FORM THAT CODE MEANS at interval k.
  abbrev pub form_of : ℕ → CodeRows → Form
  form_of k rows c = map (slot_in (c / k)) (rows (c / k) (c % k))

-- What stands at so many places in a row, from one on, where something stands.
abbrev pub with_some : {A : Type 0} → Option A → List A → List A
with_some None rest = rest
with_some (Some a) rest = a ∷ rest

unfoldable pub gathered : {A : Type 0} → (ℕ → Option A) → ℕ → ℕ → List A
gathered f from zero = []
gathered f from (suc n) = with_some (f from) (gathered f (suc from) n)
