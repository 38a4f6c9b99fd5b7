-- The reader's tokens as the definitions have them.
use Rattle.std.specs.Prelude.{ℕ, Bool, true, not, List, ◌∷◌, drop, Some, None, Option, ◌==◌}
use Rattle.std.specs.Borrow.{Bor}
use Rattle.model.specs.Shapes.{Kind, word, number, operand, other}
use Rattle.model.specs.Lines.{Line, Lexeme, lexemes, no_token}
use Rattle.reader.specs.declared.token.Part.{Part}
use Rattle.reader.specs.declared.token.Word.{Word as OwnWord}
use Rattle.reader.specs.declared.token.Number.{Number as OwnNumber}
use Rattle.reader.specs.declared.token.Operand.{Operand as OwnOperand}
use Rattle.reader.specs.declared.token.Operand.TheVariants.{Word, Number, Negative, Earlier}
use Rattle.reader.specs.declared.token.Token.{Token}
use Rattle.reader.specs.declared.token.Token.TheVariants.{Operand, Other}

abbrev pub operand_kind : OwnOperand → Kind
operand_kind (Word w) = word
operand_kind (Number n) = number
operand_kind (Negative n) = operand
operand_kind (Earlier e) = operand

abbrev pub operand_part : OwnOperand → Part
operand_part (Word w) = w.part
operand_part (Number n) = n.part
operand_part (Negative n) = n.part
operand_part (Earlier e) = e.part

abbrev pub kind_in : Token → Kind
kind_in (Operand o) = operand_kind o
kind_in (Other p) = other

abbrev pub part_in : Token → Part
part_in (Operand o) = operand_part o
part_in (Other p) = p

abbrev pub lexeme_of : Kind → Part → Lexeme
lexeme_of k p = record { kind = k; bytes = p.text.now; line = p.line; column = p.column }

abbrev pub operand_seen : OwnOperand → Lexeme
operand_seen o = lexeme_of (operand_kind o) (operand_part o)

abbrev pub seen : Token → Lexeme
seen t = lexeme_of (kind_in t) (part_in t)

-- a token as an operand, a word or a number, if it is one
abbrev pub operand_in : Token → Option OwnOperand
operand_in (Operand o) = Some o
operand_in (Other p) = None

abbrev pub word_by : OwnOperand → Option OwnWord
word_by (Word w) = Some w
word_by (Number n) = None
word_by (Negative n) = None
word_by (Earlier e) = None

abbrev pub word_in : Token → Option OwnWord
word_in (Operand o) = word_by o
word_in (Other p) = None

abbrev pub number_by : OwnOperand → Option OwnNumber
number_by (Word w) = None
number_by (Number n) = Some n
number_by (Negative n) = None
number_by (Earlier e) = None

abbrev pub number_in : Token → Option OwnNumber
number_in (Operand o) = number_by o
number_in (Other p) = None

abbrev pub shown : Option Token → Option Lexeme
shown None = None
shown (Some t) = Some (seen t)

abbrev pub or_none : Option Lexeme → Lexeme
or_none None = no_token
or_none (Some t) = t

-- the tokens of a line of which `at` bytes have been read
unfoldable pub left : ℕ → List ℕ → ℕ → List Lexeme
left line text at = lexemes line at true (drop at text)

-- a token, if there was one, in front of others
abbrev pub taken : Option Token → List Lexeme → List Lexeme
taken None rest = rest
taken (Some t) rest = seen t ∷ rest

-- a byte that ends no line
abbrev pub inside : ℕ → Bool
inside b = not (b == 10)

-- a line with its number
abbrev pub line_seen : ℕ × Bor (List ℕ) → Line
line_seen l = record { number = l.0; bytes = l.1.now }

abbrev pub word_seen : OwnWord → Lexeme
word_seen w = lexeme_of word w.part

abbrev pub number_seen : OwnNumber → Lexeme
number_seen n = lexeme_of number n.part
