-- What the tests ask before they book. Definitions only: nothing is assumed or proved here.
use Rattle.std.specs.Prelude.{ℕ, ◌<◌, ◌≤◌, length}
use Rattle.meaning.specs.House.{House}

-- so many seats can be booked in a class on leg i, where so many bookings are allowed
pub record Bookable (h : House) (bookings class seats i : ℕ) : Type 0 where
  pub leg : i < length h.legs
  pub class_there : class < 26
  pub some : 1 ≤ seats
  pub few : seats ≤ 9
  pub space : length h.bookings < bookings
