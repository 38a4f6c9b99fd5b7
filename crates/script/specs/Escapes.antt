-- The text that stands between the quotes of a call, byte by byte.
use Rattle.std.specs.Prelude.{ℕ, ◌+◌, ◌-◌, ◌*◌, Bool, cond, ◌||◌, List, [], ◌∷◌, Some, None, Option, ◌==◌}
use Rattle.model.specs.Shapes.{between, digit}
use Rattle.script.specs.declared.escapes.After.{After}
use Rattle.script.specs.declared.escapes.After.TheVariants.{Plain, Backslash, Hex, Digit}
use Rattle.script.specs.declared.escapes.Step.{Step}
use Rattle.script.specs.declared.escapes.Step.TheVariants.{Turn, Put}

-- 0 to 9 and a to f
abbrev pub hex_digit : ℕ → Bool
hex_digit b = digit b || between 97 102 b

abbrev pub hex_value : ℕ → ℕ
hex_value b = cond (digit b) (b - 48) (cond (between 97 102 b) (b - 87) 0)

-- What a byte does, by what stands before it: \n is byte 10, \\ and \" are the byte behind the backslash, \xHH is the byte with those two digits;
-- a quote stands only behind a backslash, and any other byte for itself.
abbrev pub step_of : After → ℕ → Option Step
step_of Plain b = cond (b == 92) (Some (Turn Backslash)) (cond (b == 34) None (Some (Put b)))
step_of Backslash b = cond (b == 110) (Some (Put 10)) (cond (b == 92 || b == 34) (Some (Put b)) (cond (b == 120) (Some (Turn Hex)) None))
step_of Hex b = cond (hex_digit b) (Some (Turn (Digit b))) None
step_of (Digit h) b = cond (hex_digit b) (Some (Put (16 * hex_value h + hex_value b))) None

-- an escape is finished before the text ends
abbrev pub closed : After → Option (List ℕ)
closed Plain = Some []
closed Backslash = None
closed Hex = None
closed (Digit h) = None

abbrev pub put : ℕ → Option (List ℕ) → Option (List ℕ)
put b None = None
put b (Some t) = Some (b ∷ t)

abbrev pub go_on : Option Step → (After → Option (List ℕ)) → Option (List ℕ)
go_on (Some (Turn a)) rest = rest a
go_on (Some (Put b)) rest = put b (rest Plain)
go_on None rest = None

abbrev pub spelled : After → List ℕ → Option (List ℕ)
spelled a [] = closed a
spelled a (b ∷ bs) = go_on (step_of a b) (λ next. spelled next bs)

-- THE TEXT that some bytes spell, if their escapes are in order.
abbrev pub unescaped : List ℕ → Option (List ℕ)
unescaped bs = spelled Plain bs
