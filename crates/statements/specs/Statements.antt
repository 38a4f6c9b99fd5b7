-- The statements of the code as the definitions have them.
use Rattle.std.specs.Prelude.{ℕ, ◌&&◌, List, [], ◌∷◌, ◌++◌, map, length, Some, None, Ok, Option, Result, nat_le}
use Rattle.model.specs.declared.Code.{Code}
use Rattle.model.specs.Lines.{Lexeme}
use Rattle.model.specs.Questions.{Refusal, Check, asked, each, at_line, first_no, no_or, unless}
use Rattle.model.specs.Loop.{Operation}
use Rattle.model.specs.LoopText.{Written, numeral, name, Use, Statement, memory_operations, checks_by, named_by, statement_by}
use Rattle.texts.specs.declared.name.Name.{Name}
use Rattle.statements.specs.declared.statement.Written.{Written as OwnWritten}
use Rattle.statements.specs.declared.statement.Written.TheVariants.{Numeral, Named}
use Rattle.statements.specs.declared.statement.Use.{Use as OwnUse}
use Rattle.operations.specs.declared.operation.Cell.{Cell}
use Rattle.operations.specs.declared.operation.Operation.{Operation as OwnOperation}
use Rattle.operations.specs.Seen.{seen}
use Rattle.statements.specs.declared.statement.Statement.{Statement as OwnStatement}
use Rattle.texts.specs.Seen.{name_seen}

abbrev pub written_seen : OwnWritten → Written
written_seen (Numeral z) = numeral z
written_seen (Named n d) = name (name_seen n) d

abbrev pub use_seen : OwnUse → Use
use_seen u = record { operand = written_seen u.operand; line = u.line; column = u.column }

abbrev pub action_seen : OwnOperation OwnUse → Operation Use
action_seen a = seen use_seen a

abbrev pub defined_seen : Option Name → Option (List ℕ)
defined_seen None = None
defined_seen (Some n) = Some (name_seen n)

abbrev pub statement_seen : OwnStatement → Statement
statement_seen s = record { line = s.line; defines = defined_seen s.defines; operation = action_seen s.action }

abbrev pub all_seen : List OwnStatement → List Statement
all_seen ss = map statement_seen ss

-- an answer, unless a number is out of range
abbrev pub in_range_or : {X : Type 0} → List Check → Result X Refusal → Result X Refusal
in_range_or cs r = unless (no_or 3 (each cs) None) r

-- a cell as its stride and its offset
abbrev pub cell_seen : Cell → ℕ × ℕ
cell_seen c = (c.stride, c.offset)

-- one statement more, unless there is no room for it
abbrev pub push_step : List Statement → Statement → Result (List Statement) Refusal
push_step ss s = unless (no_or 6 (at_line s.line (nat_le (length (ss ++ s ∷ [])) 32 && nat_le (memory_operations (ss ++ s ∷ [])) 16)) None) (Ok (ss ++ s ∷ []))

-- a line of this form, after some statements
abbrev pub form_step : List Statement → ℕ → Code → List Lexeme → Result (List Statement) Refusal
form_step ss n c ts =
    unless
    (first_no
    (asked 3 (each (checks_by c ts))
    ∷ asked 4 (named_by ss (Some c) ts)
    ∷ asked 6 (at_line n (nat_le (length (ss ++ statement_by n (Some c) ts)) 32 && nat_le (memory_operations (ss ++ statement_by n (Some c) ts)) 16))
    ∷ []))
    (Ok (ss ++ statement_by n (Some c) ts))
