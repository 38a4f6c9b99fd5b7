use Rattle.std.proofs.Common.{rules}
use Rattle.std.proofs.ByRecursion.{all_from_every, every_from_all}
use Rattle.bounds.proofs.limits.edges_fit.Goals as goal

pub returns : goal.returns
returns c = search (rules, all_from_every, every_from_all)
