use Rattle.text_laws.proofs.Firsts.{machine_law}
use Rattle.text_laws.proofs.machine_text_law.Goals as goal

pub returns : goal.returns
returns c = machine_law
