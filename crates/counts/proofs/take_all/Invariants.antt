use Rattle.counts.proofs.Journeys.{On}
use Rattle.counts.proofs.take_all.Given as goal

abbrev pub invariant-loop-x : goal.invariant-loop-x
invariant-loop-x l = On l.initial.legs l.legs l.b l.x
