use Rattle.std.proofs.Common.{arith}
use Rattle.engine_writes.proofs.Lists.{pushed_list}
use Rattle.engine_writes.proofs.dues.Dues.push.Goals as goal

pub returns : goal.returns
returns c = pushed_list c.args.self.now.places c.args.self.now.counts c.args.due c.args.r _ _ (omega arith) (omega arith) c.put.ensures.more c.put.ensures.full
