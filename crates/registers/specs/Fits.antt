-- What fit promises of its answer.
use Rattle.std.specs.Prelude.{ℕ, Some, None, Option}
use Rattle.model.specs.Lives.{Table}
use Rattle.model.specs.Schemes.{Meaning, Accepted, Refused}

abbrev pub Fitted : {S : Type 0} → (S → Meaning) → (S → ℕ → ℕ → ℕ) → S → S → Table → Option ℕ → Type 0
Fitted meaning place before after t None = Refused (meaning before) before after t
Fitted meaning place before after t (Some u) = Accepted (meaning before) (meaning after) (place after) t u
