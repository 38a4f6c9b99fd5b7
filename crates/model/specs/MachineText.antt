-- The machine text.
use Rattle.std.specs.Prelude.{ℕ, ◌+◌, Bool, false, cond, not, ◌&&◌, ◌||◌, List, [], ◌∷◌, ◌++◌, length, Some, None, codes, Option, Result, nat_le, slice_index_or, slice_set}
use Rattle.std.specs.Str.{bytes_eq}
use Rattle.model.specs.declared.Code.{Code}
use Rattle.model.specs.declared.Code.TheVariants.{Load, Store, Add, Sub, Mul, Move}
use Rattle.model.specs.declared.MachineForm.{MachineForm}
use Rattle.model.specs.declared.MachineForm.TheVariants.{Unit as UnitForm, Op}
use Rattle.model.specs.declared.Timing.{Timing}
use Rattle.model.specs.Shapes.{every, between, code_of, has_some, is_reserved}
use Rattle.model.specs.Lines.{Line, Lexeme, tokens, tok, amount, Want, fixed, a_code, a_name, a_number, form_among}
use Rattle.model.specs.Questions.{Answer, good, asked, at_line, check, each, printable, formed_by, Refusal, Rules, reading}

-- A unit class by its name and the number of its units.
pub record Class : Type 0 where
  pub name : List ℕ
  pub count : ℕ

-- The classes in text order, and for each code, by its number, what the text says of it so far.
pub record Machine : Type 0 where
  pub classes : List Class
  pub timings : List (Option Timing)

abbrev pub nothing : Machine
nothing = record { classes = []; timings = None ∷ None ∷ None ∷ None ∷ None ∷ None ∷ [] }

--    unit NAME COUNT
--    op CODE NAME LATENCY BUSY
abbrev pub wants : MachineForm → List Want
wants UnitForm = fixed (codes "unit") ∷ a_name ∷ a_number ∷ []
wants Op = fixed (codes "op") ∷ a_code ∷ a_name ∷ a_number ∷ a_number ∷ []

abbrev pub form_of : List Lexeme → Option MachineForm
form_of ts = form_among wants (UnitForm ∷ Op ∷ []) ts

abbrev pub code_number : Code → ℕ
code_number Load = 0
code_number Store = 1
code_number Add = 2
code_number Sub = 3
code_number Mul = 4
code_number Move = 5

abbrev pub number_of : Option Code → ℕ
number_of None = 6
number_of (Some c) = code_number c

-- the code of an op line, by its number
abbrev pub code_at : List Lexeme → ℕ
code_at ts = number_of (code_of (tok ts 1).bytes)

-- where a class stands, by its name; their number if nowhere
abbrev pub class_at : List Class → List ℕ → ℕ
class_at [] w = 0
class_at (c ∷ cs) w = cond (bytes_eq w c.name) 0 (1 + class_at cs w)

abbrev pub names_class : List Class → List ℕ → Bool
names_class [] w = false
names_class (c ∷ cs) w = bytes_eq w c.name || names_class cs w

-- 2: does it have one of the forms?
abbrev pub formed : Line → Answer
formed l = formed_by (λ ts. has_some (form_of ts)) l.number (tokens l)

-- 3: is each number in range? A COUNT and a LATENCY from 1 to 8, a BUSY from 1 to the LATENCY.
abbrev pub ranged_by : Option MachineForm → List Lexeme → Answer
ranged_by None ts = good
ranged_by (Some UnitForm) ts = each (check (tok ts 2) (between 1 8 (amount ts 2)) ∷ [])
ranged_by (Some Op) ts = each (check (tok ts 3) (between 1 8 (amount ts 3)) ∷ check (tok ts 4) (between 1 (amount ts 3) (amount ts 4)) ∷ [])

abbrev pub ranged : Line → Answer
ranged l = ranged_by (form_of (tokens l)) (tokens l)

-- 4: is a defined class unreserved and new; is the code new and the class defined on an earlier line?
abbrev pub named_by : Machine → Option MachineForm → List Lexeme → Answer
named_by m None ts = good
named_by m (Some UnitForm) ts = each (check (tok ts 1) (not (is_reserved (tok ts 1).bytes) && not (names_class m.classes (tok ts 1).bytes)) ∷ [])
named_by m (Some Op) ts = each (check (tok ts 1) (not (has_some (slice_index_or m.timings (code_at ts) None))) ∷ check (tok ts 2) (names_class m.classes (tok ts 2).bytes) ∷ [])

abbrev pub named : Machine → Line → Answer
named m l = named_by m (form_of (tokens l)) (tokens l)

-- 5: are there at most eight classes with this one?
abbrev pub roomy_by : Machine → Option MachineForm → ℕ → Answer
roomy_by m None n = good
roomy_by m (Some UnitForm) n = at_line n (nat_le (length m.classes + 1) 8)
roomy_by m (Some Op) n = good

abbrev pub roomy : Machine → Line → Answer
roomy m l = roomy_by m (form_of (tokens l)) l.number

-- the class that a line defines, if any
abbrev pub class_by : Option MachineForm → List Lexeme → List Class
class_by None ts = []
class_by (Some UnitForm) ts = record { name = (tok ts 1).bytes; count = amount ts 2 } ∷ []
class_by (Some Op) ts = []

abbrev pub class_of : Line → List Class
class_of l = class_by (form_of (tokens l)) (tokens l)

-- the codes with what a line says of one
abbrev pub timings_by : Machine → Option MachineForm → List Lexeme → List (Option Timing)
timings_by m None ts = m.timings
timings_by m (Some UnitForm) ts = m.timings
timings_by m (Some Op) ts =
    slice_set m.timings (code_at ts) (Some (record { class = class_at m.classes (tok ts 2).bytes; latency = amount ts 3; busy = amount ts 4 }))

abbrev pub machine_rules : Rules Machine
machine_rules =
    record {
      start = nothing;
      asks = λ m l. asked 1 (printable l) ∷ asked 2 (formed l) ∷ asked 3 (ranged l) ∷ asked 4 (named m l) ∷ asked 5 (roomy m l) ∷ [];
      adds = λ m l. record { classes = m.classes ++ class_of l; timings = timings_by m (form_of (tokens l)) (tokens l) };
      -- 5, at the end: has each of the six codes been put on a class?
      ends = λ m. asked 5 (at_line 0 (every has_some m.timings)) ∷ [];
    }

abbrev pub read_machine : List ℕ → Result Machine Refusal
read_machine text = reading machine_rules text
