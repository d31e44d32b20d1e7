-- turn by turn one class more in which the seats are given back
use Rattle.std.proofs.Common.{arith}
use Rattle.counts.proofs.Shares.{shared_less, same_here}
use Rattle.counts.proofs.give_on.Goals as goal

pub loop-d-preserved : goal.loop-d-preserved
loop-d-preserved c = shared_less c.args.legs.now c.loop-d.legs c.args.i c.loop-d.d c.args.seats _ (omega arith) (omega arith) c.loop-d.invariant
    (omega (arith, c.requires.taken c.loop-d.d (omega arith), same_here c.loop-d.legs c.args.legs.now c.args.i c.loop-d.d c.args.seats (omega arith) c.loop-d.invariant))
