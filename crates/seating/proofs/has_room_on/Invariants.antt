use Rattle.std.proofs.Common.{ℕ, ◌+◌, ◌<◌, ◌≤◌, get_or}
use Rattle.meaning.specs.House.{taken}
use Rattle.store.specs.Whole.{house}
use Rattle.seating.proofs.has_room_on.Given as goal

abbrev pub invariant-loop-c : goal.invariant-loop-c
invariant-loop-c l = (j : ℕ) → j < l.c → taken (house l.memory).bookings l.i j + l.seats ≤ get_or l.g.limits j 0
