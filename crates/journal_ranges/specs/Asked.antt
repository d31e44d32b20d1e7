-- What a booking asks for and how it stands, in range. Definitions only: nothing is assumed or proved here.
use Rattle.std.specs.Prelude.{Bool, ◌&&◌, nat_le, nat_lt}
use Rattle.records.specs.declared.Booking.{Booking}
use Rattle.checks.specs.Ranges.{seats_fit}

-- what a booking asks for in range, but for its legs
abbrev pub asks_fit : Booking → Bool
asks_fit b = seats_fit b.class b.seats && (nat_le 1 b.count && nat_le b.count 8)

-- how a booking stands, until when, and what was paid, in range
abbrev pub stands_fit : Booking → Bool
stands_fit b = nat_le b.stands 3 && (nat_lt b.until 16842752 && nat_le b.paid 7200000000)
