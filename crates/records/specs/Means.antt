-- What a leg, a fare and a booking of the code mean in the house. Definitions only: nothing is assumed or proved here.
use Rattle.meaning.specs.Lines as lines
use Rattle.meaning.specs.House as houses
use Rattle.std.specs.Prelude.{take}
use Rattle.records.specs.declared.Leg.{Leg}
use Rattle.records.specs.declared.Fare.{Fare}
use Rattle.records.specs.declared.Booking.{Booking}

-- a leg has as many limits as classes; the other places of its array mean nothing
abbrev pub leg_means : Leg → lines.Leg
leg_means g = record { from = g.from; to = g.to; leaves = g.leaves; arrives = g.arrives; limits = take g.classes g.limits }

-- a fare is just what it says
abbrev pub fare_means : Fare → lines.Fare
fare_means f = record { origin = f.origin; goal = f.goal; class = f.class; most_legs = f.most; price = f.price }

-- a booking has as many legs as it counts; the other places of its array mean nothing
abbrev pub booking_means : Booking → houses.Booking
booking_means b = record { legs = take b.count b.legs; class = b.class; seats = b.seats; stands = b.stands; until = b.until; paid = b.paid }
