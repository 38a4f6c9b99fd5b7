use Rattle.text_laws.proofs.Firsts.{loop_law}
use Rattle.text_laws.proofs.loop_text_law.Goals as goal

pub returns : goal.returns
returns c = loop_law
