-- turn by turn one class more in which the seats are taken
use Rattle.std.proofs.Common.{arith}
use Rattle.counts.proofs.Shares.{shared_more}
use Rattle.counts.proofs.take_on.Goals as goal

pub loop-c-preserved : goal.loop-c-preserved
loop-c-preserved c = shared_more c.args.legs.now c.loop-c.legs c.args.i c.loop-c.c c.args.seats _ (omega arith) (omega arith) c.loop-c.invariant (omega arith)
