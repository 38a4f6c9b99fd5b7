-- Which line a machine text's tokens are, and which class has a name.
use Rattle.std.specs.Prelude.{◌≡◌, ℕ, Bool, true, false, List, Some, None, Option}
use Rattle.std.specs.Str.{bytes_eq}
use Rattle.model.specs.declared.MachineForm.TheVariants.{Unit as UnitForm, Op}
use Rattle.model.specs.Lines.{Lexeme, fits_all, tok}
use Rattle.model.specs.MachineText.{wants}
use Rattle.reader.specs.Seen.{seen, word_seen, number_seen}
use Rattle.texts.specs.declared.entries.Class.{Class}
use Rattle.texts.specs.Seen.{name_seen}
use Rattle.texts.specs.declared.forms.UnitLine.{UnitLine}
use Rattle.texts.specs.declared.forms.OpLine.{OpLine}

abbrev pub UnitFormed : List Lexeme → Option UnitLine → Type 0
UnitFormed ts None = fits_all (wants UnitForm) ts ≡ false
UnitFormed ts (Some u) = (fits_all (wants UnitForm) ts ≡ true) × (word_seen u.name ≡ tok ts 1) × (number_seen u.count ≡ tok ts 2)

abbrev pub OpFormed : List Lexeme → Option OpLine → Type 0
OpFormed ts None = fits_all (wants Op) ts ≡ false
OpFormed ts (Some o) =
    (fits_all (wants Op) ts ≡ true) × (seen o.code_token ≡ tok ts 1) × (word_seen o.class ≡ tok ts 2) × (number_seen o.latency ≡ tok ts 3) × (number_seen o.busy ≡ tok ts 4)

-- a class with this name
abbrev pub called : List ℕ → Class → Bool
called w c = bytes_eq w (name_seen c.name)
