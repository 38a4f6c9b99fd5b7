-- What the scheme means, by its field.
use Rattle.model.specs.Schemes.{Meaning}
use Rattle.guest_scheme.specs.declared.lanes.Lanes.{Lanes}
use Rattle.guest_scheme.specs.Lane.{lanes_with}

abbrev pub lanes_meaning : Lanes → Meaning
lanes_meaning s = lanes_with s.variables
