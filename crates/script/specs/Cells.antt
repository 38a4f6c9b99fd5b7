-- Numbers and cells as a script writes them.
use Rattle.std.specs.Prelude.{ℕ, ◌+◌, ◌*◌, ◌^◌, Bool, cond, ◌&&◌, List, length, Some, None, codes, fold, Option, ◌==◌, from_bits, nat_le, nat_lt, Float}
use Rattle.std.specs.Float.{nan, binary64}
use Rattle.std.specs.Str.{bytes_eq}
use Rattle.model.specs.Shapes.{every, between, digit, value, has_some}
use Rattle.script.specs.declared.line.DomainName.{DomainName}
use Rattle.script.specs.declared.line.DomainName.TheVariants.{Words, Floats}
use Rattle.script.specs.Escapes.{hex_digit, hex_value}

abbrev pub is_digits : ℕ → List ℕ → Bool
is_digits most w = between 1 most (length w) && every digit w

-- a number of 1 to 9 decimal digits
abbrev pub count_of : List ℕ → Option ℕ
count_of w = cond (is_digits 9 w) (Some (value w)) None

-- the length of a buffer, at most 1,048,576
abbrev pub length_of : List ℕ → Option ℕ
length_of w = cond (is_digits 9 w && nat_le (value w) 1048576) (Some (value w)) None

-- A cell of words: 1 to 10 decimal digits below 2 ^ 32.
abbrev pub word_of : List ℕ → Option ℕ
word_of w = cond (is_digits 10 w && nat_lt (value w) (2 ^ 32)) (Some (value w)) None

abbrev pub hex_number : List ℕ → ℕ
hex_number w = fold (λ n b. n * 16 + hex_value b) 0 w

-- A cell of floats: nan, or the 16 hexadecimal digits of its bits. Every pattern that is no number is the one nan.
abbrev pub float_of : List ℕ → Option Float
float_of w = cond (bytes_eq w (codes "nan")) (Some nan) (cond (length w == 16 && every hex_digit w) (Some (from_bits binary64 (hex_number w))) None)

abbrev pub is_cell : DomainName → List ℕ → Bool
is_cell Words w = has_some (word_of w)
is_cell Floats w = has_some (float_of w)
