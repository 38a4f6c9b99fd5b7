use Rattle.std.proofs.Common.{refl}
use Rattle.reader.specs.Seen.{left}
use Rattle.reader.proofs.reader.Reader.new.Goals as goal

pub returns : goal.returns
unfolding left
returns c = refl
