-- Legs, fares and bookings in range, as memory keeps them. Definitions only: nothing is assumed or proved here.
use Rattle.std.specs.Prelude.{◌≡◌, ℕ, ◌<◌, ◌≤◌, true, take, slice_index}
use Rattle.meaning.specs.Calls.{falling, all_to, no_twice}
use Rattle.records.specs.declared.Leg.{Leg}
use Rattle.records.specs.declared.Fare.{Fare}
use Rattle.records.specs.declared.Booking.{Booking}

-- a leg between two places, that leaves before it arrives, and has 1 to 26 limits up to 1,000 that never rise
pub record FineLeg (g : Leg) : Type 0 where
  pub from : g.from < 65536
  pub to : g.to < 65536
  pub leaves : g.leaves < g.arrives
  pub arrives : g.arrives < 16777216
  pub some : 1 ≤ g.classes
  pub classes : g.classes ≤ 26
  pub falling : falling (take g.classes g.limits) ≡ true
  pub small : all_to 1000 (take g.classes g.limits) ≡ true

-- a fare between two places in one of 26 classes, for 1 to 8 legs, up to 100,000,000
pub record FineFare (f : Fare) : Type 0 where
  pub origin : f.origin < 65536
  pub goal : f.goal < 65536
  pub class : f.class < 26
  pub some : 1 ≤ f.most
  pub most : f.most ≤ 8
  pub price : f.price ≤ 100000000

-- a booking of 1 to 9 seats in one of 26 classes, on 1 to 8 of so many legs, none twice, that waits, is held, paid or gone
pub record FineBooking (legs : ℕ) (b : Booking) : Type 0 where
  pub class : b.class < 26
  pub some : 1 ≤ b.seats
  pub seats : b.seats ≤ 9
  pub any : 1 ≤ b.count
  pub few : b.count ≤ 8
  pub there : (x : ℕ) → x < b.count → slice_index b.legs x < legs
  pub apart : no_twice (take b.count b.legs) ≡ true
  pub stands : b.stands ≤ 3
