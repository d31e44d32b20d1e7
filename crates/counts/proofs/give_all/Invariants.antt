use Rattle.counts.proofs.Journeys.{On}
use Rattle.counts.proofs.give_all.Given as goal

abbrev pub invariant-loop-y : goal.invariant-loop-y
invariant-loop-y l = On l.legs l.initial.legs l.b l.y
