use Rattle.std.proofs.Common.{arith}
use Rattle.registers.proofs.Layouts.{laid_more}
use Rattle.registers.proofs.rotating.Rotating.laid_out.Goals as goal

pub loop-life-preserved : goal.loop-life-preserved
loop-life-preserved c =
    let k = c.args.lives.now.interval in
    let ls = c.as_slice-life-items.result.now in
    let pushed = (rw c.unwrap.ensures at c.push.ensures).1 in
    let more = laid_more k ls c.loop-life.life-index c.loop-life.below _ (omega arith) c.as_slice-life-items.ensures.each c.loop-life-test.true c.loop-life.invariant in
    rw (c.width-below.ensures, pushed) more
