-- The lines of a text, and the tokens of a line.
use Rattle.std.specs.Prelude.{ℕ, ◌+◌, Bool, true, false, cond, not, ◌&&◌, List, [], ◌∷◌, take, Some, None, Option, ◌==◌, slice_index_or}
use Rattle.std.specs.List.{prefix_len}
use Rattle.std.specs.Str.{bytes_eq}
use Rattle.model.specs.Shapes.{Kind, word, number, operand, other, kind_of, code_of, has_some, value}

abbrev pub front : ℕ → List (List ℕ) → List (List ℕ)
front b [] = (b ∷ []) ∷ []
front b (l ∷ ls) = (b ∷ l) ∷ ls

-- A line ends at a byte 10 or at the end of the text. A byte 10 at the very end opens none.
abbrev pub lines : List ℕ → List (List ℕ)
lines [] = []
lines (b ∷ bs) = cond (b == 10) ([] ∷ lines bs) (front b (lines bs))

pub record Line : Type 0 where
  pub number : ℕ
  pub bytes : List ℕ

abbrev pub numbered : ℕ → List (List ℕ) → List Line
numbered n [] = []
numbered n (l ∷ ls) = record { number = n; bytes = l } ∷ numbered (n + 1) ls

-- Every line counts, from 1.
abbrev pub lines_of : List ℕ → List Line
lines_of text = numbered 1 (lines text)

-- A token: its bytes with their shape, its line, and its column, 1 plus the number of bytes before it in its line.
pub record Lexeme : Type 0 where
  pub kind : Kind
  pub bytes : List ℕ
  pub line : ℕ
  pub column : ℕ

abbrev pub lexeme : List ℕ → ℕ → ℕ → Lexeme
lexeme bytes line at = record { kind = kind_of bytes; bytes = bytes; line = line; column = at + 1 }

abbrev pub space : ℕ → Bool
space b = b == 32

abbrev pub solid : ℕ → Bool
solid b = not (b == 32)

-- the longest run of bytes other than 32 at the front of bs, which stand behind `at` bytes of the line
abbrev pub run : ℕ → ℕ → List ℕ → Lexeme
run line at bs = lexeme (take (prefix_len solid bs) bs) line at

-- A token begins at each byte other than 32 that has a 32 or nothing before it.
abbrev pub lexemes : ℕ → ℕ → Bool → List ℕ → List Lexeme
lexemes line at fresh [] = []
lexemes line at fresh (b ∷ bs) =
    cond (space b) (lexemes line (at + 1) true bs) (cond fresh (run line at (b ∷ bs) ∷ lexemes line (at + 1) false bs) (lexemes line (at + 1) false bs))

abbrev pub tokens : Line → List Lexeme
tokens l = lexemes l.number 0 true l.bytes

-- a token by its place among the line's, from 0
abbrev pub no_token : Lexeme
no_token = record { kind = other; bytes = []; line = 0; column = 0 }

abbrev pub tok : List Lexeme → ℕ → Lexeme
tok ts i = slice_index_or ts i no_token

abbrev pub amount : List Lexeme → ℕ → ℕ
amount ts i = value (tok ts i).bytes

-- What a form wants at a place: a fixed word, a code, a name, a number, an operand.
pub data Want : Type 0 where
  fixed : List ℕ → Want
  a_code a_name a_number an_operand : Want

abbrev pub is_word : Kind → Bool
is_word word = true
is_word number = false
is_word operand = false
is_word other = false

abbrev pub is_digits : Kind → Bool
is_digits word = false
is_digits number = true
is_digits operand = false
is_digits other = false

abbrev pub is_operand : Kind → Bool
is_operand word = true
is_operand number = true
is_operand operand = true
is_operand other = false

abbrev pub fits : Want → Lexeme → Bool
fits (fixed w) t = bytes_eq t.bytes w
fits a_code t = has_some (code_of t.bytes)
fits a_name t = is_word t.kind
fits a_number t = is_digits t.kind
fits an_operand t = is_operand t.kind

-- token for token
abbrev pub fits_all : List Want → List Lexeme → Bool
fits_all [] [] = true
fits_all [] (t ∷ ts) = false
fits_all (w ∷ ws) [] = false
fits_all (w ∷ ws) (t ∷ ts) = fits w t && fits_all ws ts

-- the form of a line, of those that there are
abbrev pub form_among : {F : Type 0} → (F → List Want) → List F → List Lexeme → Option F
form_among wants [] ts = None
form_among wants (f ∷ fs) ts = cond (fits_all (wants f) ts) (Some f) (form_among wants fs ts)
