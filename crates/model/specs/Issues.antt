-- What issues in each cycle: which operations, for which iteration, where their operands come from and which register takes the result.
use Rattle.std.specs.Prelude.{ℕ, zero, suc, ◌+◌, ◌-◌, ◌*◌, ◌/◌, ◌%◌, Bool, cond, ◌&&◌, List, [], ◌∷◌, ◌++◌, length, ℤ, ◌==◌, nat_le, nat_lt}
use Rattle.model.specs.Loop.{Loop, Operand, literal, variable, Operation, op, on_operands, makes, Hardware, total}
use Rattle.model.specs.Schedule.{Schedule, stage, row, stages}
use Rattle.model.specs.Plain.{before_first}

-- Where an operand comes from.
pub data Source : Type 0 where
  constant : ℤ → Source
  register : ℕ → Source

-- One operation as it issues, for the iteration pass - stage. The target is its result register, if it makes a value.
pub record Slot : Type 0 where
  pub operation : Operation Source
  pub stage : ℕ
  pub target : ℕ
  pub latency : ℕ
  pub class : ℕ
  pub busy : ℕ

-- A code form says of each cycle which slots issue, in order.
abbrev pub Form : Type 0
Form = ℕ → List Slot

-- The passes of a run of n operations, and its cycles.
abbrev pub passes : Schedule → ℕ → ℕ → ℕ
passes w n trips = cond (trips == 0) 0 (trips + stages w n - 1)

abbrev pub cycles : Schedule → ℕ → ℕ → ℕ
cycles w n trips = passes w n trips * w.interval

-- Operation j issues in row r of pass p; and in cycle c.
unfoldable pub issues_in : Schedule → ℕ → ℕ → ℕ → ℕ → Bool
issues_in w trips j p r = row w j == r && (nat_le (stage w j) p && nat_lt (p - stage w j) trips)

abbrev pub issues : Schedule → ℕ → ℕ → ℕ → Bool
issues w trips j c = issues_in w trips j (c / w.interval) (c % w.interval)

-- In cycle c, in pass c / k, what stands in stage s works for this iteration.
unfoldable pub iteration_in : ℕ → ℕ → ℕ → ℕ
iteration_in k s c = c / k - s

abbrev pub iteration_of : Schedule → ℕ → ℕ → ℕ
iteration_of w j c = iteration_in w.interval (stage w j) c

-- Where an operand of iteration i comes from; `home p i` is the register of what operation p makes in iteration i.
abbrev pub source : (ℕ → ℕ → ℕ) → ℕ → Operand → Source
source home i (literal z) = constant z
source home i (variable p d) = cond (nat_le d i) (register (home p (i - d))) (constant before_first)

-- The number of the variable that operation j defines: so many definers stand before it.
abbrev pub variable_number : Loop → ℕ → ℕ
variable_number ops j = total (λ q. cond (makes (op ops q)) 1 0) j

-- The registers by operation, from a register scheme's places, which go by variable.
abbrev pub home_of : Loop → (ℕ → ℕ → ℕ) → ℕ → ℕ → ℕ
home_of ops place j i = place (variable_number ops j) i

module _ (ops : Loop) (hw : Hardware) (w : Schedule) (home : ℕ → ℕ → ℕ) where
  -- operation j as it issues in cycle c
  abbrev pub slot_of : ℕ → ℕ → Slot
  slot_of c j = record {
    operation = on_operands (source home (iteration_of w j c)) (op ops j);
    stage = stage w j;
    target = cond (makes (op ops j)) (home j (iteration_of w j c)) 0;
    latency = hw.latency j;
    class = hw.class j;
    busy = hw.busy j;
  }

module _ (ops : Loop) (hw : Hardware) (w : Schedule) (trips : ℕ) (home : ℕ → ℕ → ℕ) where
  -- the slots of cycle c, of the first j operations
  unfoldable pub slots : ℕ → ℕ → List Slot
  slots c zero = []
  slots c (suc j) = slots c j ++ cond (issues w trips j c) (slot_of ops hw w home c j ∷ []) []

  -- THE ISSUES OF A CYCLE, in the order of the operations: what a code form has to mean.
  abbrev pub issues_at : Form
  issues_at c = slots c (length ops)
