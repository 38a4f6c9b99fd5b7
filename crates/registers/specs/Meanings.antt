-- What the two schemes mean, by their fields.
use Rattle.std.specs.Prelude.{length, slice_index}
use Rattle.model.specs.Schemes.{Meaning, rotating_with, expanded_with}
use Rattle.few.specs.Held.{held}
use Rattle.registers.specs.declared.rotating.Rotating.{Rotating}
use Rattle.registers.specs.declared.expanded.Expanded.{Expanded}

abbrev pub rotating_meaning : Rotating → Meaning
rotating_meaning s = rotating_with (length (held s.bases)) (λ v. slice_index (held s.bases) v)

abbrev pub expanded_meaning : Expanded → Meaning
expanded_meaning s = expanded_with s.count s.turns
