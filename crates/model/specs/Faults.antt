-- What a refused call is told: the number of the question, the layer, and of a text the line (0 for the whole) and the column of a token.
use Rattle.std.specs.Prelude.{ℕ, cond, Some, Ok, Err, Option, Result, ◌==◌}
use Rattle.model.specs.declared.Layer.{Layer}
use Rattle.model.specs.declared.Layer.TheVariants.{Text, Graph}
use Rattle.model.specs.Questions.{Refusal}

pub record Fault : Type 0 where
  pub number : ℕ
  pub layer : Layer
  pub line : Option ℕ
  pub column : Option ℕ

-- Questions 1 to 6 fail in the text layer, 7 in the graph layer.
abbrev pub text_fault : Refusal → Fault
text_fault f = record { number = f.number; layer = cond (f.number == 7) Graph Text; line = Some f.line; column = f.column }

abbrev pub on_err : {X E F : Type 0} → (E → F) → Result X E → Result X F
on_err f (Ok x) = Ok x
on_err f (Err e) = Err (f e)
