use Rattle.counts.specs.Counts.{Shared}
use Rattle.counts.proofs.take_on.Given as goal

abbrev pub invariant-loop-c : goal.invariant-loop-c
invariant-loop-c l = Shared l.initial.legs l.legs l.i l.c l.seats
