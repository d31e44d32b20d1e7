-- the legs and bookings of the worked example are in range, by the meaning's own test
use Rattle.std.proofs.Common.{List, [], ◌∷◌, refl, arith}
use Rattle.meaning.specs.Lines.{Leg}
use Rattle.meaning.specs.House.{goes}
use Rattle.meaning.specs.Calls.{good_fields, falling, all_to, all_there, no_twice}
use Rattle.records.specs.Words.{leg_of, booking_of}
use Rattle.store.specs.Range.{FineLeg, FineBooking}
use Rattle.store.proofs.Ranges.{new_leg_fine, new_booking_fine}
use Rattle.store_tests.proofs.tests.fill.Goals as goal

first : FineLeg (leg_of 1 2 100 200 (5 ∷ 3 ∷ 2 ∷ []))
unfolding good_fields falling all_to
first = new_leg_fine 1 2 100 200 (5 ∷ 3 ∷ 2 ∷ []) refl

second : FineLeg (leg_of 2 3 230 300 (5 ∷ 4 ∷ []))
unfolding good_fields falling all_to
second = new_leg_fine 2 3 230 300 (5 ∷ 4 ∷ []) refl

-- two legs with two classes each, as far as a booking asks
two : List Leg
two =
    record { from = 1; to = 2; leaves = 100; arrives = 200; limits = 5 ∷ 3 ∷ 2 ∷ [] }
    ∷ record { from = 2; to = 3; leaves = 230; arrives = 300; limits = 5 ∷ 4 ∷ [] }
    ∷ []

both : FineBooking 2 (booking_of 1 2 (0 ∷ 1 ∷ []))
unfolding good_fields all_there no_twice goes two
both = new_booking_fine two 1 2 (0 ∷ 1 ∷ []) refl refl refl

one : FineBooking 2 (booking_of 1 2 (0 ∷ []))
unfolding good_fields all_there no_twice goes two
one = new_booking_fine two 1 2 (0 ∷ []) refl refl refl

three : FineBooking 2 (booking_of 0 3 (0 ∷ 1 ∷ []))
unfolding good_fields all_there no_twice goes two
three = new_booking_fine two 0 3 (0 ∷ 1 ∷ []) refl refl refl

pub add_leg-requires : goal.add_leg-requires
add_leg-requires g c = record { place = omega arith; fine = first }

pub add_leg-requires-2 : goal.add_leg-requires-2
add_leg-requires-2 g c = record { place = omega arith; fine = second }

pub add_booking-requires : goal.add_booking-requires
add_booking-requires g c = record { fine = both }

pub add_booking-requires-2 : goal.add_booking-requires-2
add_booking-requires-2 g c = record { fine = one }

pub add_booking-requires-3 : goal.add_booking-requires-3
add_booking-requires-3 g c = record { fine = three }
