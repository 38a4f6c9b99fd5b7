-- The shapes of a token, the reserved words, and the forms of a line.
use Rattle.std.specs.Prelude.{ℕ, ◌+◌, ◌-◌, ◌*◌, Bool, cond, ◌&&◌, ◌||◌, List, length, take, drop, Some, None, codes, fold, Option, ◌==◌, nat_le, slice_index, is_some}
use Rattle.std.specs.List.{prefix_len, list_all, list_any}
use Rattle.std.specs.Str.{bytes_eq}
use Rattle.model.specs.declared.Code.{Code}
use Rattle.model.specs.declared.Code.TheVariants.{Load, Store, Add, Sub, Mul, Move}

abbrev pub every : {X : Type 0} → (X → Bool) → List X → Bool
every p xs = list_all p xs

abbrev pub some : {X : Type 0} → (X → Bool) → List X → Bool
some p xs = list_any p xs

abbrev pub between : ℕ → ℕ → ℕ → Bool
between lo hi n = nat_le lo n && nat_le n hi

abbrev pub letter : ℕ → Bool
letter b = between 97 122 b

abbrev pub digit : ℕ → Bool
digit b = between 48 57 b

-- 1 to 8 letters a to z
abbrev pub is_name : List ℕ → Bool
is_name w = between 1 8 (length w) && every letter w

-- 1 to 5 decimal digits
abbrev pub is_number : List ℕ → Bool
is_number w = between 1 5 (length w) && every digit w

-- a minus and a number
abbrev pub is_negative : List ℕ → Bool
is_negative w = slice_index w 0 == 45 && is_number (drop 1 w)

-- a name, an @ and a number
abbrev pub name_of : List ℕ → List ℕ
name_of w = take (prefix_len letter w) w

abbrev pub after_at : List ℕ → List ℕ
after_at w = drop (prefix_len letter w + 1) w

abbrev pub is_earlier : List ℕ → Bool
is_earlier w = is_name (name_of w) && (slice_index w (prefix_len letter w) == 64 && is_number (after_at w))

-- A word is a name; a word, a number and the two other shapes of an operand are operands; anything else has no shape.
pub data Kind : Type 0 where
  word number operand other : Kind

abbrev pub kind_of : List ℕ → Kind
kind_of w = cond (is_name w) word (cond (is_number w) number (cond (is_earlier w || is_negative w) operand other))

-- the value of some digits
abbrev pub value : List ℕ → ℕ
value w = fold (λ n b. n * 10 + (b - 48)) 0 w

abbrev pub code_of : List ℕ → Option Code
code_of w =
    cond (bytes_eq w (codes "load")) (Some Load)
    (cond (bytes_eq w (codes "store")) (Some Store)
    (cond (bytes_eq w (codes "add")) (Some Add)
    (cond (bytes_eq w (codes "sub")) (Some Sub)
    (cond (bytes_eq w (codes "mul")) (Some Mul)
    (cond (bytes_eq w (codes "move")) (Some Move) None)))))

abbrev pub has_some : {X : Type 0} → Option X → Bool
has_some o = is_some o

-- unit, op, start and the six codes
abbrev pub is_reserved : List ℕ → Bool
is_reserved w = bytes_eq w (codes "unit") || (bytes_eq w (codes "op") || (bytes_eq w (codes "start") || has_some (code_of w)))
