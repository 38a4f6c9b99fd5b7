-- What accepted texts are known by, and the loop on its machine.
use Rattle.std.specs.Prelude.{◌≡◌, ℕ, zero, suc, Bool, true, false, ◌&&◌, ◌||◌, List, map, length, ℤ, pos, negsuc, Some, None, Ok, count_by, Option, ◌==◌, nat_le, nat_lt, slice_index_or}
use Rattle.model.specs.declared.Code.{Code}
use Rattle.model.specs.declared.Code.TheVariants.{Load, Store, Add, Sub, Mul, Move}
use Rattle.model.specs.declared.Operator.TheVariants.{Plus, Minus, Times}
use Rattle.model.specs.declared.Timing.{Timing}
use Rattle.model.specs.Shapes.{every, between}
use Rattle.model.specs.MachineText.{Machine, code_number, read_machine}
use Rattle.model.specs.Loop.{Operand, literal, variable, Operation, load, store, binary, move, Loop, op, makes, in_memory, Hardware, WellFormed}
use Rattle.model.specs.LoopText.{read_loop}
use Rattle.model.specs.Limits.{MachineFits, hardware as listed}

-- Each code is on a class that there is, with its latency and its busy time in range; each class has 1 to 8 units.
abbrev pub sound_timing : ℕ → Option Timing → Bool
sound_timing classes None = false
sound_timing classes (Some t) = nat_lt t.class classes && (between 1 8 t.latency && between 1 t.latency t.busy)

abbrev pub sound_machine : Machine → Bool
sound_machine m =
    every (sound_timing (length m.classes)) m.timings && (every (λ c. between 1 8 c.count) m.classes && (nat_le (length m.classes) 8 && length m.timings == 6))

abbrev pub in_range : ℤ → Bool
in_range (pos n) = nat_le n 32767
in_range (negsuc n) = nat_le n 32767

-- Of operation q: a literal is in range; a variable is one of the loop's, at most seven iterations back, and this iteration's only if it is defined above.
abbrev pub sound_operand : Loop → ℕ → Operand → Bool
sound_operand ops q (literal z) = in_range z
sound_operand ops q (variable p d) = nat_lt p (length ops) && (makes (op ops p) && ((nat_lt 0 d || nat_lt p q) && nat_le d 7))

abbrev pub sound_cell : ℕ → ℕ → Bool
sound_cell stride offset = nat_le stride 16 && nat_le offset 65535

abbrev pub sound_operation : Loop → ℕ → Operation Operand → Bool
sound_operation ops q (load stride offset) = sound_cell stride offset
sound_operation ops q (store a stride offset) = sound_operand ops q a && sound_cell stride offset
sound_operation ops q (binary code a b) = sound_operand ops q a && sound_operand ops q b
sound_operation ops q (move a) = sound_operand ops q a

-- of the first n operations
unfoldable pub sound_below : Loop → ℕ → Bool
sound_below ops zero = true
sound_below ops (suc q) = sound_below ops q && sound_operation ops q (op ops q)

-- 1 to 32 operations, at most 16 of them in memory, each as it should be.
abbrev pub sound_loop : Loop → Bool
sound_loop ops = between 1 32 (length ops) && (nat_le (count_by in_memory ops) 16 && sound_below ops (length ops))

-- the code of an operation
abbrev pub code_of : {A : Type 0} → Operation A → Code
code_of (load stride offset) = Load
code_of (store a stride offset) = Store
code_of (binary Plus a b) = Add
code_of (binary Minus a b) = Sub
code_of (binary Times a b) = Mul
code_of (move a) = Move

abbrev pub or_no_timing : Option Timing → Timing
or_no_timing None = record { class = 0; latency = 0; busy = 0 }
or_no_timing (Some t) = t

abbrev pub timing_of : Machine → Code → Timing
timing_of m c = or_no_timing (slice_index_or m.timings (code_number c) None)

-- What each operation of a loop takes of the machine, and the units of each class.
abbrev pub timings_of : Machine → Loop → List Timing
timings_of m ops = map (λ o. timing_of m (code_of o)) ops

abbrev pub units_of : Machine → List ℕ
units_of m = map (λ c. c.count) m.classes

abbrev pub hardware : Machine → Loop → Hardware
hardware m ops = listed (timings_of m ops) (units_of m)

-- Accepted texts are sound, and give a well-formed loop on its machine.
pub record TextsAreSound : Type 0 where
  pub machines : (text : List ℕ) (m : Machine) → read_machine text ≡ Ok m → sound_machine m ≡ true
  pub loops : (text : List ℕ) (ops : Loop) → read_loop text ≡ Ok ops → sound_loop ops ≡ true
  pub well_formed : (m : Machine) (ops : Loop) → sound_machine m ≡ true → sound_loop ops ≡ true → WellFormed ops (hardware m ops)
  pub fits : (m : Machine) (ops : Loop) → sound_machine m ≡ true → MachineFits (timings_of m ops) (units_of m)
