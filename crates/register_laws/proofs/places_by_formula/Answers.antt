use Rattle.register_laws.proofs.Formulas.{places_by_formula}
use Rattle.register_laws.proofs.places_by_formula.Goals as goal

pub returns : goal.returns
returns c = places_by_formula
