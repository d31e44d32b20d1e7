use Rattle.std.proofs.Common.{◌≡◌, ℕ, ◌<◌, true, [], ◌∷◌, get_or}
use Rattle.meaning.specs.House.{room}
use Rattle.store.specs.Whole.{house}
use Rattle.seating.proofs.has_room.Given as goal

abbrev pub invariant-loop-i : goal.invariant-loop-i
invariant-loop-i l = (y : ℕ) → y < l.i-index → room (house l.memory).legs (house l.memory).bookings (get_or l.legs y 0 ∷ []) l.class l.seats ≡ true
