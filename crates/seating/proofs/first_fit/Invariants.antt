use Rattle.std.proofs.Common.{◌≡◌, ℕ, ◌+◌, ◌<◌, ◌≤◌, true, [], ◌∷◌, get_or}
use Rattle.meaning.specs.House.{room, taken}
use Rattle.store.specs.Whole.{house}
use Rattle.seating.specs.Serving.{NoneBelow}
use Rattle.seating.proofs.first_fit.Given as goal

-- the classes that were passed have room
abbrev pub invariant-loop-c : goal.invariant-loop-c
invariant-loop-c l = (j : ℕ) → j < l.c → taken (house l.memory).bookings l.i j + l.b.seats ≤ get_or l.g.limits j 0

-- the legs that were passed have room
abbrev pub invariant-loop-x : goal.invariant-loop-x
invariant-loop-x l = (y : ℕ) → y < l.x → room (house l.memory).legs (house l.memory).bookings (get_or l.b.legs y 0 ∷ []) l.b.class l.b.seats ≡ true

-- none of the bookings that were passed could be held
abbrev pub invariant-bookings : goal.invariant-bookings
invariant-bookings l = NoneBelow (house l.memory) l.k
