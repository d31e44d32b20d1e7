use Rattle.store.specs.Whole.{house}
use Rattle.seating.proofs.Frees.{Least}
use Rattle.seating.proofs.free_seats.Given as goal

abbrev pub invariant-loop-c : goal.invariant-loop-c
invariant-loop-c l = Least (house l.memory).bookings l.i l.g 1000 l.c l.free
