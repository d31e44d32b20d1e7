use Rattle.counts.specs.Counts.{Shared}
use Rattle.counts.proofs.give_on.Given as goal

abbrev pub invariant-loop-d : goal.invariant-loop-d
invariant-loop-d l = Shared l.legs l.initial.legs l.i l.d l.seats
