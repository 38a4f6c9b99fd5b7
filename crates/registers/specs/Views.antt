-- What a table of lives holds.
use Rattle.std.specs.Prelude.{◌≡◌, ◌<◌, Bool, true, false, [], ◌∷◌, ◌++◌, length}
use Rattle.model.specs.declared.Life.{Life}
use Rattle.model.specs.Lives.{Table, LifeWithin}
use Rattle.few.specs.Held.{held}
use Rattle.registers.specs.declared.lives.Lives.{Lives}

abbrev pub table : Lives → Table
table l = record { interval = l.interval; lives = held l.lives }

-- A life was offered: taken behind the others if there is room and it is within the limits, and otherwise nothing changes.
abbrev pub Filled : Lives → Lives → Life → Bool → Type 0
Filled before after l true = (length (table before).lives < 32) × LifeWithin before.interval l ×
    (table after ≡ record { interval = before.interval; lives = (table before).lives ++ (l ∷ []) })
Filled before after l false = ((length (table before).lives < 32) × LifeWithin before.interval l → ⊥) × (after ≡ before)
