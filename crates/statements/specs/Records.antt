-- The statements record as the definitions have it.
use Rattle.std.specs.Prelude.{List}
use Rattle.few.specs.Held.{held}
use Rattle.model.specs.LoopText.{Statement}
use Rattle.statements.specs.declared.statements.Statements.{Statements}
use Rattle.statements.specs.Statements.{all_seen}

abbrev pub statements_seen : Statements → List Statement
statements_seen s = all_seen (held s.items)
