-- Questions and their answers, and the reading of a text as the first no.
use Rattle.std.specs.Prelude.{ℕ, Bool, cond, List, [], ◌∷◌, length, Some, None, Ok, Err, Option, Result, nat_le}
use Rattle.model.specs.Lines.{Line, lines_of, Lexeme}
use Rattle.model.specs.Shapes.{every, between}

-- An answer: yes, or no at a line (0 for the whole text) and, if it tells a token, its column.
pub data Answer : Type 0 where
  good : Answer
  bad : ℕ → Option ℕ → Answer

-- a question by its number, with its answer
pub record Asked : Type 0 where
  pub number : ℕ
  pub answer : Answer

abbrev pub asked : ℕ → Answer → Asked
asked n a = record { number = n; answer = a }

-- What a refused text is told: the number of the question, the line, and the column of a token.
pub record Refusal : Type 0 where
  pub number : ℕ
  pub line : ℕ
  pub column : Option ℕ

-- yes or no, and a no tells the line alone
abbrev pub at_line : ℕ → Bool → Answer
at_line line b = cond b good (bad line None)

-- of a token at a line and a column, whether it is as it should be
pub record Check : Type 0 where
  pub line : ℕ
  pub column : ℕ
  pub fine : Bool

abbrev pub check : Lexeme → Bool → Check
check t b = record { line = t.line; column = t.column; fine = b }

-- no at the first token that is not as it should be
abbrev pub each : List Check → Answer
each [] = good
each (c ∷ cs) = cond c.fine (each cs) (bad c.line (Some c.column))

-- 1: is every byte of the line 32 to 126?
abbrev pub printable : Line → Answer
printable l = at_line l.number (every (between 32 126) l.bytes)

-- 2: of a line with tokens, do they have a form?
abbrev pub formed_by : (List Lexeme → Bool) → ℕ → List Lexeme → Answer
formed_by has n [] = good
formed_by has n (t ∷ ts) = at_line n (has (t ∷ ts))

-- what the first no of some questions gives
abbrev pub no_or : ℕ → Answer → Option Refusal → Option Refusal
no_or n good rest = rest
no_or n (bad l c) rest = Some (record { number = n; line = l; column = c })

abbrev pub first_no : List Asked → Option Refusal
first_no [] = None
first_no (q ∷ qs) = no_or q.number q.answer (first_no qs)

-- The rules of a text: what stands before any line, the questions put to a line in the order of their numbers,
-- what a line adds, and the questions at the end.
pub record Rules (R : Type 0) : Type 0 where
  pub start : R
  pub asks : R → Line → List Asked
  pub adds : R → Line → R
  pub ends : R → List Asked

abbrev pub unless : {R : Type 0} → Option Refusal → Result R Refusal → Result R Refusal
unless None r = r
unless (Some f) r = Err f

-- line by line, with what was read so far
abbrev pub read_lines : {R : Type 0} → Rules R → R → List Line → Result R Refusal
read_lines k r [] = unless (first_no (k.ends r)) (Ok r)
read_lines k r (l ∷ ls) = unless (first_no (k.asks r l)) (read_lines k (k.adds r l) ls)

-- 1, before any line: is the text at most 4,096 bytes long?
abbrev pub before : List ℕ → List Asked
before text = asked 1 (at_line 0 (nat_le (length text) 4096)) ∷ []

abbrev pub reading : {R : Type 0} → Rules R → List ℕ → Result R Refusal
reading k text = unless (first_no (before text)) (read_lines k k.start (lines_of text))
