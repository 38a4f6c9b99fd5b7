-- Which line a loop text's tokens are.
use Rattle.std.specs.Prelude.{◌≡◌, ℕ, true, false, ◌&&◌, List, [], ◌∷◌, Some, None, Option, codes}
use Rattle.model.specs.declared.Code.{Code}
use Rattle.model.specs.declared.Code.TheVariants.{Load as LoadCode, Store as StoreCode, Add, Sub, Mul, Move as MoveCode}
use Rattle.model.specs.declared.Operator.{Operator}
use Rattle.model.specs.declared.Operator.TheVariants.{Plus, Minus, Times}
use Rattle.model.specs.Lines.{Lexeme, no_token, fixed, a_name, an_operand, fits, fits_all, tok}
use Rattle.model.specs.LoopText.{defining, wants, form_of, operand_fine, written_by}
use Rattle.reader.specs.declared.token.Word.{Word}
use Rattle.reader.specs.Seen.{word_seen, number_seen, operand_seen}
use Rattle.statements.specs.declared.forms.Form.{Form}
use Rattle.statements.specs.declared.forms.Form.TheVariants.{Load, Store, Binary, Move}
use Rattle.statements.specs.declared.statement.Written.{Written}
use Rattle.statements.specs.Statements.{written_seen}

abbrev pub binary_code : Operator → Code
binary_code Plus = Add
binary_code Minus = Sub
binary_code Times = Mul

abbrev pub binary_word : Operator → List ℕ
binary_word Plus = codes "add"
binary_word Minus = codes "sub"
binary_word Times = codes "mul"

abbrev pub code_in : Form → Code
code_in (Load w p) = LoadCode
code_in (Store v p) = StoreCode
code_in (Binary w o a b) = binary_code o
code_in (Move w a) = MoveCode

-- the tokens of a line at the places where its form reads them
abbrev pub tokens_in : Form → List Lexeme
tokens_in (Load w p) = word_seen w ∷ no_token ∷ no_token ∷ number_seen p.stride ∷ number_seen p.offset ∷ []
tokens_in (Store v p) = no_token ∷ operand_seen v ∷ number_seen p.stride ∷ number_seen p.offset ∷ []
tokens_in (Binary w o a b) = word_seen w ∷ no_token ∷ no_token ∷ operand_seen a ∷ operand_seen b ∷ []
tokens_in (Move w a) = word_seen w ∷ no_token ∷ no_token ∷ operand_seen a ∷ []

-- the tokens that a form reads are the same
abbrev pub Same : Code → List Lexeme → List Lexeme → Type 0
Same LoadCode us ts = (tok us 0 ≡ tok ts 0) × (tok us 3 ≡ tok ts 3) × (tok us 4 ≡ tok ts 4)
Same StoreCode us ts = (tok us 1 ≡ tok ts 1) × (tok us 2 ≡ tok ts 2) × (tok us 3 ≡ tok ts 3)
Same Add us ts = (tok us 0 ≡ tok ts 0) × (tok us 3 ≡ tok ts 3) × (tok us 4 ≡ tok ts 4)
Same Sub us ts = (tok us 0 ≡ tok ts 0) × (tok us 3 ≡ tok ts 3) × (tok us 4 ≡ tok ts 4)
Same Mul us ts = (tok us 0 ≡ tok ts 0) × (tok us 3 ≡ tok ts 3) × (tok us 4 ≡ tok ts 4)
Same MoveCode us ts = (tok us 0 ≡ tok ts 0) × (tok us 3 ≡ tok ts 3)

-- a token as the name in front of an equals sign
abbrev pub NameDefined : Lexeme → Lexeme → Option Word → Type 0
NameDefined t u None = (fits a_name t && fits (fixed (codes "=")) u) ≡ false
NameDefined t u (Some w) = ((fits a_name t && fits (fixed (codes "=")) u) ≡ true) × (word_seen w ≡ t)

-- whether some tokens have the form of a code
abbrev pub Formed : Code → List Lexeme → Option Form → Type 0
Formed c ts None = fits_all (wants c) ts ≡ false
Formed c ts (Some f) = (fits_all (wants c) ts ≡ true) × (code_in f ≡ c) × Same c (tokens_in f) ts

abbrev pub BinaryFormed : Operator → List Lexeme → Option Form → Type 0
BinaryFormed o ts None = fits_all (defining (fixed (binary_word o) ∷ an_operand ∷ an_operand ∷ [])) ts ≡ false
BinaryFormed o ts (Some f) =
    (fits_all (defining (fixed (binary_word o) ∷ an_operand ∷ an_operand ∷ [])) ts ≡ true) × (code_in f ≡ binary_code o)
    × ((tok (tokens_in f) 0 ≡ tok ts 0) × (tok (tokens_in f) 3 ≡ tok ts 3) × (tok (tokens_in f) 4 ≡ tok ts 4))

-- whether they have any
abbrev pub FormFound : List Lexeme → Option Form → Type 0
FormFound ts None = form_of ts ≡ None
FormFound ts (Some f) = (form_of ts ≡ Some (code_in f)) × Same (code_in f) (tokens_in f) ts

-- what an operand says, or none where its number is out of range
abbrev pub WrittenAs : Lexeme → Option Written → Type 0
WrittenAs t None = operand_fine t.kind t.bytes ≡ false
WrittenAs t (Some w) = (operand_fine t.kind t.bytes ≡ true) × (written_seen w ≡ written_by t.kind t.bytes)

abbrev pub word_lexemes : Option Word → List Lexeme
word_lexemes None = []
word_lexemes (Some w) = word_seen w ∷ []
