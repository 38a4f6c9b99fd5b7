-- Value domains: the operations on values of a type V, and the two domains.
use Rattle.std.specs.Prelude.{ℕ, suc, ◌+◌, ◌-◌, ◌*◌, ◌%◌, ◌^◌, ◌<◌, true, false, ℤ, pos, negsuc, Float}
use Rattle.std.specs.Float.Ieee as ieee
use Rattle.std.specs.Float.{binary64}
use Rattle.std.specs.Float.Ieee.Exact.{HasValue}
pub use Rattle.model.specs.declared.Operator.{Operator}
use Rattle.model.specs.declared.Operator.TheVariants.{Plus, Minus, Times}

-- The value of a literal, and what an operator makes of two values.
pub record Domain (V : Type 0) : Type 0 where
  pub of_literal : ℤ → V
  pub apply : Operator → V → V → V

-- WORDS: 32 bits, wrapping. A literal is taken modulo 2 ^ 32.
abbrev pub word_literal : ℤ → ℕ
word_literal (pos n) = n % 2 ^ 32
word_literal (negsuc n) = (2 ^ 32 - (n + 1) % 2 ^ 32) % 2 ^ 32

abbrev pub word_apply : Operator → ℕ → ℕ → ℕ
word_apply Plus a b = (a + b) % 2 ^ 32
word_apply Minus a b = (a + 2 ^ 32 - b) % 2 ^ 32
word_apply Times a b = a * b % 2 ^ 32

abbrev pub words : Domain ℕ
words = record { of_literal = word_literal; apply = word_apply }

-- FLOATS: binary64. Each operation is rounded once to nearest, ties to even; not-a-number is one value, the two zeros are two.
abbrev pub float_apply : Operator → Float → Float → Float
float_apply Plus a b = ieee.add binary64 a b
float_apply Minus a b = ieee.sub binary64 a b
float_apply Times a b = ieee.mul binary64 a b

abbrev pub floats : Domain Float
floats = record { of_literal = ieee.of_int binary64; apply = float_apply }

-- The float of an integer of 32 bits is finite, with its sign and its size: nothing is rounded. (HasValue x sign a b: x is a / b with that sign.)
abbrev pub Exact : ℤ → Float → Type 0
Exact (pos n) x = HasValue x false n 1
Exact (negsuc n) x = HasValue x true (suc n) 1

pub record LiteralsExact : Type 0 where
  pub from_zero : (n : ℕ) → n < 2 ^ 31 → Exact (pos n) (floats.of_literal (pos n))
  pub below_zero : (n : ℕ) → n < 2 ^ 31 → Exact (negsuc n) (floats.of_literal (negsuc n))
