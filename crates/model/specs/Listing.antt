-- The listing: a loop in a schedule, written out in names of registers as front, kernel and rest.
use Rattle.std.specs.Prelude.{ℕ, zero, suc, ◌+◌, ◌-◌, ◌*◌, ◌/◌, ◌%◌, max, cond, ◌&&◌, List, [], ◌∷◌, ◌++◌, map, length, pos, Some, None, Option, nat_le, nat_lt, slice_index_or}
use Rattle.std.specs.List.{flat_map}
use Rattle.model.specs.declared.Code.{Code}
use Rattle.model.specs.declared.Code.TheVariants.{Load, Store, Add, Sub, Mul, Move}
use Rattle.model.specs.declared.Operator.TheVariants.{Plus, Minus, Times}
use Rattle.model.specs.declared.Part.{Part}
use Rattle.model.specs.declared.Part.TheVariants.{Front, Kernel, Rest}
pub use Rattle.model.specs.declared.Parts.{Parts}
use Rattle.model.specs.Loop.{Loop, Operand, literal, variable, Operation, load, store, binary, move, op, on_operands, makes}
use Rattle.model.specs.Edges.{each}
use Rattle.model.specs.Schedule.{Schedule, stage, row, stages}
use Rattle.model.specs.Soundness.{code_of}
use Rattle.model.specs.Plain.{before_first}
use Rattle.model.specs.Issues.{passes, issues_in, variable_number}
use Rattle.model.specs.ScheduleLives.{greatest}
use Rattle.model.specs.Codes.{CodeSource, immediate, named, CodeSlot, CodeRows}

-- A slot as it is written: where it stands, the stage and the code of its operation, the name of its result, its operands, its stride and its offset.
-- What its code lacks is absent; the operand of a store and of a move is the left one.
pub record Slot : Type 0 where
  pub part : Part
  pub pass : ℕ
  pub row : ℕ
  pub stage : ℕ
  pub code : Code
  pub result : Option ℕ
  pub left : Option CodeSource
  pub right : Option CodeSource
  pub stride : Option ℕ
  pub offset : Option ℕ

abbrev pub left_of : {A : Type 0} → Operation A → Option A
left_of (load stride offset) = None
left_of (store a stride offset) = Some a
left_of (binary code a b) = Some a
left_of (move a) = Some a

abbrev pub right_of : {A : Type 0} → Operation A → Option A
right_of (load stride offset) = None
right_of (store a stride offset) = None
right_of (binary code a b) = Some b
right_of (move a) = None

abbrev pub stride_written : {A : Type 0} → Operation A → Option ℕ
stride_written (load stride offset) = Some stride
stride_written (store a stride offset) = Some stride
stride_written (binary code a b) = None
stride_written (move a) = None

abbrev pub offset_written : {A : Type 0} → Operation A → Option ℕ
offset_written (load stride offset) = Some offset
offset_written (store a stride offset) = Some offset
offset_written (binary code a b) = None
offset_written (move a) = None

-- The slot of an operation over names.
abbrev pub slot_with : Part → ℕ → ℕ → ℕ → Option ℕ → Operation CodeSource → Slot
slot_with part pass row stage result o = record {
  part = part;
  pass = pass;
  row = row;
  stage = stage;
  code = code_of o;
  result = result;
  left = left_of o;
  right = right_of o;
  stride = stride_written o;
  offset = offset_written o;
}

-- What a slot says: its operation, by its code, from what is there.
abbrev pub or_zero : Option ℕ → ℕ
or_zero None = 0
or_zero (Some n) = n

abbrev pub or_nought : Option CodeSource → CodeSource
or_nought None = immediate (pos 0)
or_nought (Some a) = a

abbrev pub operation_by : Code → Option CodeSource → Option CodeSource → Option ℕ → Option ℕ → Operation CodeSource
operation_by Load a b s o = load (or_zero s) (or_zero o)
operation_by Store a b s o = store (or_nought a) (or_zero s) (or_zero o)
operation_by Add a b s o = binary Plus (or_nought a) (or_nought b)
operation_by Sub a b s o = binary Minus (or_nought a) (or_nought b)
operation_by Mul a b s o = binary Times (or_nought a) (or_nought b)
operation_by Move a b s o = move (or_nought a)

abbrev pub said : Slot → CodeSlot
said s = record {
  operation = operation_by s.code s.left s.right s.stride s.offset;
  stage = s.stage;
  result = s.result;
}

-- THE PARTS. D is the greatest distance of an operand, 0 without one.
abbrev pub distance : Operand → ℕ
distance (literal z) = 0
distance (variable j d) = d

-- of the first n operations
unfoldable pub farthest : Loop → ℕ → ℕ
farthest ops zero = 0
farthest ops (suc n) = max (farthest ops n) (greatest distance (op ops n))

-- The stages less one, and D: behind so many passes every stage has begun, and every operand is of an iteration from 0 on.
unfoldable pub head_of : Loop → Schedule → ℕ
head_of ops w = stages w (length ops) - 1 + farthest ops (length ops)

-- At most `head` trips are all front.
abbrev pub all_front : ℕ → Parts
all_front passes = record { front = passes; kernel = 0; repeats = 0; rest = 0 }

-- Of G more trips, each repeat of the kernel takes `turns`; it is written once, and only if it repeats. What is left and the last stages are the rest.
abbrev pub with_kernel : ℕ → ℕ → ℕ → ℕ → Parts
with_kernel head stages turns more = record {
  front = head;
  kernel = cond (nat_lt 0 (more / turns)) turns 0;
  repeats = more / turns;
  rest = more % turns + (stages - 1);
}

unfoldable pub parts_of : Loop → Schedule → ℕ → ℕ → Parts
parts_of ops w turns trips =
    cond (nat_le trips (head_of ops w))
    (all_front (passes w (length ops) trips))
    (with_kernel (head_of ops w) (stages w (length ops)) turns (trips - head_of ops w))

abbrev pub passes_in : Parts → Part → ℕ
passes_in ps Front = ps.front
passes_in ps Kernel = ps.kernel
passes_in ps Rest = ps.rest

-- The passes of the run, and those that are written.
abbrev pub passes_run : Parts → ℕ
passes_run ps = ps.front + ps.repeats * ps.kernel + ps.rest

abbrev pub passes_written : Parts → ℕ
passes_written ps = ps.front + ps.kernel + ps.rest

-- The pass of the run that a part begins with; the kernel is written as it is first run.
abbrev pub first_pass : Parts → Part → ℕ
first_pass ps Front = 0
first_pass ps Kernel = ps.front
first_pass ps Rest = ps.front + ps.repeats * ps.kernel

-- Which written pass, counted through front, kernel and rest, stands for pass p of the run.
unfoldable pub written_pass : Parts → ℕ → ℕ
written_pass ps p =
    cond (nat_lt p ps.front) p
    (cond (nat_lt p (ps.front + ps.repeats * ps.kernel)) (ps.front + (p - ps.front) % ps.kernel)
    (p - ps.repeats * ps.kernel + ps.kernel))

-- THE SLOTS, in pass p of the run. `name v c r` is the name for variable v, copy c and r passes back.
module _ (ops : Loop) (w : Schedule) (name : ℕ → ℕ → ℕ → ℕ) (turns : ℕ) where
  -- of what operation j makes
  abbrev pub name_in : ℕ → ℕ → ℕ → ℕ
  name_in p j back = name (variable_number ops j) (p % turns) back

  -- An operand of what stands in stage s: a value from before iteration 0 is a literal.
  abbrev pub operand_in : ℕ → ℕ → Operand → CodeSource
  operand_in p s (literal z) = immediate z
  operand_in p s (variable j d) = cond (nat_le d (p - s)) (named (name_in p j (s + d))) (immediate before_first)

  abbrev pub operation_in : ℕ → ℕ → Operation CodeSource
  operation_in p j = on_operands (operand_in p (stage w j)) (op ops j)

  abbrev pub result_in : ℕ → ℕ → Option ℕ
  result_in p j = cond (makes (op ops j)) (Some (name_in p j (stage w j))) None

  -- operation j in pass q of a part, which is pass p of the run
  unfoldable pub slot_in_pass : Part → ℕ → ℕ → ℕ → Slot
  slot_in_pass part q p j = slot_with part q (row w j) (stage w j) (result_in p j) (operation_in p j)

  module _ (trips : ℕ) where
    -- row r of it
    unfoldable pub row_of : Part → ℕ → ℕ → ℕ → List Slot
    row_of part q p r = each (λ j. cond (issues_in w trips j p r) (slot_in_pass part q p j ∷ []) []) (length ops)

    -- its rows, and those of a part
    unfoldable pub rows_of_pass : Part → ℕ → ℕ → List (List Slot)
    rows_of_pass part q p = each (λ r. row_of part q p r ∷ []) w.interval

    unfoldable pub rows_of_part : Part → List (List Slot)
    rows_of_part part =
        each (λ q. rows_of_pass part q (first_pass (parts_of ops w turns trips) part + q)) (passes_in (parts_of ops w turns trips) part)

    unfoldable pub rows_of : List (List Slot)
    rows_of = rows_of_part Front ++ (rows_of_part Kernel ++ rows_of_part Rest)

-- A LISTING: its rows by part, pass and row, each with its slots by operation.
pub record Listing : Type 0 where
  pub rows : List (List Slot)
  pub parts : Parts
  pub trips : ℕ
  pub interval : ℕ

abbrev pub listing : Loop → Schedule → (ℕ → ℕ → ℕ → ℕ) → ℕ → ℕ → Listing
listing ops w name turns trips = record {
  rows = rows_of ops w name turns trips;
  parts = parts_of ops w turns trips;
  trips = trips;
  interval = w.interval;
}

-- Its slots, row after row.
abbrev pub slots_of : Listing → List Slot
slots_of l = flat_map (λ row. row) l.rows

-- Which written row stands for row r of pass p of the run; and what it says. Outside the run there is nothing.
abbrev pub written_row : Listing → ℕ → ℕ → ℕ
written_row l p r = written_pass l.parts p * l.interval + r

unfoldable pub code_of_listing : Listing → CodeRows
code_of_listing l p r =
    cond (nat_lt p (passes_run l.parts) && nat_lt r l.interval) (map said (slice_index_or l.rows (written_row l p r) [])) []
