-- The loop text.
use Rattle.std.specs.Prelude.{ℕ, zero, suc, ◌+◌, Bool, true, false, cond, not, ◌&&◌, List, [], ◌∷◌, ◌++◌, map, length, drop, ℤ, pos, neg_ℤ, Some, None, Ok, Err, codes, count_by, Option, Result, ◌==◌, nat_le, nat_lt, slice_index}
use Rattle.std.specs.List.{flat_map}
use Rattle.std.specs.Str.{bytes_eq}
use Rattle.model.specs.declared.Code.{Code}
use Rattle.model.specs.declared.Code.TheVariants.{Load, Store, Add, Sub, Mul, Move}
use Rattle.model.specs.declared.Operator.TheVariants.{Plus, Minus, Times}
use Rattle.model.specs.Shapes.{some, between, has_some, is_reserved, value, name_of, after_at, Kind, word, number, operand, other}
use Rattle.model.specs.Lines.{Line, Lexeme, tokens, tok, amount, Want, fixed, a_name, a_number, an_operand, form_among, is_digits}
use Rattle.model.specs.Questions.{Answer, good, asked, at_line, Check, check, each, printable, formed_by, Refusal, Rules, reading}
use Rattle.model.specs.Loop.{Operand, literal, variable, Operation, load, store, binary, move, Loop, operands, on_operands, in_memory}

-- An operand as it is written: a literal, or a name for the value of so many iterations earlier.
pub data Written : Type 0 where
  numeral : ℤ → Written
  name : List ℕ → ℕ → Written

-- an operand where it stands
pub record Use : Type 0 where
  pub operand : Written
  pub line : ℕ
  pub column : ℕ

-- A line that has a form: the name that it defines, none for a store, and its operation.
pub record Statement : Type 0 where
  pub line : ℕ
  pub defines : Option (List ℕ)
  pub operation : Operation Use

abbrev pub defining : List Want → List Want
defining ws = a_name ∷ fixed (codes "=") ∷ ws

--    NAME = load STRIDE OFFSET
--    store OPERAND STRIDE OFFSET
--    NAME = add OPERAND OPERAND
--    NAME = move OPERAND
abbrev pub wants : Code → List Want
wants Load = defining (fixed (codes "load") ∷ a_number ∷ a_number ∷ [])
wants Store = fixed (codes "store") ∷ an_operand ∷ a_number ∷ a_number ∷ []
wants Add = defining (fixed (codes "add") ∷ an_operand ∷ an_operand ∷ [])
wants Sub = defining (fixed (codes "sub") ∷ an_operand ∷ an_operand ∷ [])
wants Mul = defining (fixed (codes "mul") ∷ an_operand ∷ an_operand ∷ [])
wants Move = defining (fixed (codes "move") ∷ an_operand ∷ [])

abbrev pub form_of : List Lexeme → Option Code
form_of ts = form_among wants (Load ∷ Store ∷ Add ∷ Sub ∷ Mul ∷ Move ∷ []) ts

-- whether a written operand begins with a minus
abbrev pub minus : List ℕ → Bool
minus w = slice_index w 0 == 45

-- an operand by its shape: a name, a number, a minus and a number, or a name, an @ and a number
abbrev pub written_by : Kind → List ℕ → Written
written_by word w = name w 0
written_by number w = numeral (pos (value w))
written_by operand w = cond (minus w) (numeral (neg_ℤ (pos (value (drop 1 w))))) (name (name_of w) (value (after_at w)))
written_by other w = numeral (pos 0)

abbrev pub use_of : Lexeme → Use
use_of t = record { operand = written_by t.kind t.bytes; line = t.line; column = t.column }

abbrev pub use_at : List Lexeme → ℕ → Use
use_at ts i = use_of (tok ts i)

abbrev pub operation_by : Code → List Lexeme → Operation Use
operation_by Load ts = load (amount ts 3) (amount ts 4)
operation_by Store ts = store (use_at ts 1) (amount ts 2) (amount ts 3)
operation_by Add ts = binary Plus (use_at ts 3) (use_at ts 4)
operation_by Sub ts = binary Minus (use_at ts 3) (use_at ts 4)
operation_by Mul ts = binary Times (use_at ts 3) (use_at ts 4)
operation_by Move ts = move (use_at ts 3)

-- the token that a form defines
abbrev pub defined_by : Code → List Lexeme → List Lexeme
defined_by Load ts = tok ts 0 ∷ []
defined_by Store ts = []
defined_by Add ts = tok ts 0 ∷ []
defined_by Sub ts = tok ts 0 ∷ []
defined_by Mul ts = tok ts 0 ∷ []
defined_by Move ts = tok ts 0 ∷ []

abbrev pub name_in : List Lexeme → Option (List ℕ)
name_in [] = None
name_in (t ∷ ts) = Some t.bytes

abbrev pub statement_by : ℕ → Option Code → List Lexeme → List Statement
statement_by n None ts = []
statement_by n (Some c) ts = record { line = n; defines = name_in (defined_by c ts); operation = operation_by c ts } ∷ []

-- the statement of a line, if it has a form
abbrev pub statement_of : Line → List Statement
statement_of l = statement_by l.number (form_of (tokens l)) (tokens l)

-- 2: does it have one of the forms?
abbrev pub formed : Line → Answer
formed l = formed_by (λ ts. has_some (form_of ts)) l.number (tokens l)

-- 3: is each number in range? A literal from -32,768 to 32,767, a distance from 1 to 7, a stride to 16, an offset to 65,535.
abbrev pub operand_fine : Kind → List ℕ → Bool
operand_fine word w = true
operand_fine number w = nat_le (value w) 32767
operand_fine operand w = cond (minus w) (nat_le (value (drop 1 w)) 32768) (between 1 7 (value (after_at w)))
operand_fine other w = false

abbrev pub operand_check : Lexeme → Check
operand_check t = check t (operand_fine t.kind t.bytes)

abbrev pub at_most : ℕ → Lexeme → Check
at_most hi t = check t (is_digits t.kind && nat_le (value t.bytes) hi)

abbrev pub a_stride : Lexeme → Check
a_stride t = at_most 16 t

abbrev pub an_offset : Lexeme → Check
an_offset t = at_most 65535 t

abbrev pub checks_by : Code → List Lexeme → List Check
checks_by Load ts = a_stride (tok ts 3) ∷ an_offset (tok ts 4) ∷ []
checks_by Store ts = operand_check (tok ts 1) ∷ a_stride (tok ts 2) ∷ an_offset (tok ts 3) ∷ []
checks_by Add ts = operand_check (tok ts 3) ∷ operand_check (tok ts 4) ∷ []
checks_by Sub ts = operand_check (tok ts 3) ∷ operand_check (tok ts 4) ∷ []
checks_by Mul ts = operand_check (tok ts 3) ∷ operand_check (tok ts 4) ∷ []
checks_by Move ts = operand_check (tok ts 3) ∷ []

abbrev pub ranged_by : Option Code → List Lexeme → Answer
ranged_by None ts = good
ranged_by (Some c) ts = each (checks_by c ts)

abbrev pub ranged : Line → Answer
ranged l = ranged_by (form_of (tokens l)) (tokens l)

-- whether a statement defines this name
abbrev pub same_name : List ℕ → Option (List ℕ) → Bool
same_name w None = false
same_name w (Some n) = bytes_eq w n

abbrev pub is_defined : List Statement → List ℕ → Bool
is_defined ss w = some (λ s. same_name w s.defines) ss

-- 4: is a defined name unreserved and new?
abbrev pub named_by : List Statement → Option Code → List Lexeme → Answer
named_by ss None ts = good
named_by ss (Some c) ts = each (map (λ t. check t (not (is_reserved t.bytes) && not (is_defined ss t.bytes))) (defined_by c ts))

abbrev pub named : List Statement → Line → Answer
named ss l = named_by ss (form_of (tokens l)) (tokens l)

abbrev pub memory_operations : List Statement → ℕ
memory_operations ss = count_by (λ s. in_memory s.operation) ss

-- 6: are there at most 32 operations, and at most 16 loads and stores, with this one?
abbrev pub roomy : List Statement → Line → Answer
roomy ss l = at_line l.number (nat_le (length (ss ++ statement_of l)) 32 && nat_le (memory_operations (ss ++ statement_of l)) 16)

-- 7: is the variable defined somewhere, and without @ on an earlier line?
abbrev pub known : List Statement → ℕ → Written → Bool
known ss line (numeral z) = true
known ss line (name w zero) = some (λ s. same_name w s.defines && nat_lt s.line line) ss
known ss line (name w (suc d)) = is_defined ss w

abbrev pub known_use : List Statement → Use → Check
known_use ss u = record { line = u.line; column = u.column; fine = known ss u.line u.operand }

-- the operands of the text in their order
abbrev pub uses_of : List Statement → List Use
uses_of ss = flat_map (λ s. operands s.operation) ss

-- The rules of the loop text but for question 7; and all of them.
abbrev pub statement_rules : Rules (List Statement)
statement_rules =
    record {
      start = [];
      asks = λ ss l. asked 1 (printable l) ∷ asked 2 (formed l) ∷ asked 3 (ranged l) ∷ asked 4 (named ss l) ∷ asked 6 (roomy ss l) ∷ [];
      adds = λ ss l. ss ++ statement_of l;
      ends = λ ss. asked 6 (at_line 0 (nat_le 1 (length ss))) ∷ [];
    }

abbrev pub loop_rules : Rules (List Statement)
loop_rules =
    record {
      start = statement_rules.start;
      asks = statement_rules.asks;
      adds = statement_rules.adds;
      ends = λ ss. asked 6 (at_line 0 (nat_le 1 (length ss))) ∷ asked 7 (each (map (known_use ss) (uses_of ss))) ∷ [];
    }

-- The number of the operation that defines a name; their number if none does.
abbrev pub definer : List Statement → List ℕ → ℕ
definer [] w = 0
definer (s ∷ ss) w = cond (same_name w s.defines) 0 (1 + definer ss w)

-- The loop of some statements: each name is its definer's number.
abbrev pub resolved : List Statement → Written → Operand
resolved ss (numeral z) = literal z
resolved ss (name w d) = variable (definer ss w) d

abbrev pub loop_of : List Statement → Loop
loop_of ss = map (λ s. on_operands (λ u. resolved ss u.operand) s.operation) ss

abbrev pub on_ok : {X Y E : Type 0} → (X → Y) → Result X E → Result Y E
on_ok f (Ok x) = Ok (f x)
on_ok f (Err e) = Err e

abbrev pub read_statements : List ℕ → Result (List Statement) Refusal
read_statements text = reading statement_rules text

abbrev pub read_loop : List ℕ → Result Loop Refusal
read_loop text = on_ok loop_of (reading loop_rules text)
