-- What the words of a record say: a leg, a fare or a booking, as the code holds it. Definitions only: nothing is assumed or proved here.
use Rattle.std.specs.Prelude.{ℕ, ◌-◌, ◌*◌, List, ◌++◌, length, take, drop, replicate, slice_index}
use Rattle.records.specs.declared.Leg.{Leg}
use Rattle.records.specs.declared.Fare.{Fare}
use Rattle.records.specs.declared.Booking.{Booking}

-- the words of record k that are in use, where each record has so many words, and uses the first so many of them
abbrev pub part : ℕ → ℕ → List ℕ → ℕ → List ℕ
part size used w k = take used (drop (k * size) w)

-- a leg of its words: from, to, leaves, arrives, how many classes, and 26 limits
abbrev pub leg_read : List ℕ → Leg
leg_read w = record { from = slice_index w 0; to = slice_index w 1; leaves = slice_index w 2; arrives = slice_index w 3; classes = slice_index w 4; limits = take 26 (drop 5 w) }

-- a fare of its words: origin, goal, class, legs at most, and the price
abbrev pub fare_read : List ℕ → Fare
fare_read w = record { origin = slice_index w 0; goal = slice_index w 1; class = slice_index w 2; most = slice_index w 3; price = slice_index w 4 }

-- a booking of its words and its sum: class, seats, how it stands, until when, how many legs, 8 numbers of legs, and what was paid
abbrev pub booking_read : List ℕ → ℕ → Booking
booking_read w sum = record { class = slice_index w 0; seats = slice_index w 1; stands = slice_index w 2; until = slice_index w 3; count = slice_index w 4; legs = take 8 (drop 5 w); paid = sum }

-- leg i of all legs' words: 128 each, of which 31 say the leg
abbrev pub leg_in : List ℕ → ℕ → Leg
leg_in w i = leg_read (part 128 31 w i)

-- fare k of all fares' words: 24 each, of which 5 say the fare
abbrev pub fare_in : List ℕ → ℕ → Fare
fare_in w k = fare_read (part 24 5 w k)

-- booking k of all bookings' words and sums: 22 words each, of which 13 are in use, and a sum
abbrev pub booking_in : List ℕ → List ℕ → ℕ → Booking
booking_in w s k = booking_read (part 22 13 w k) (slice_index s k)

-- numbers in an array of n, with zeros behind them
abbrev pub padded : ℕ → List ℕ → List ℕ
padded n xs = xs ++ replicate (n - length xs) 0

-- a leg with these limits, one for each of its classes
abbrev pub leg_of : ℕ → ℕ → ℕ → ℕ → List ℕ → Leg
leg_of a b c d ls = record { from = a; to = b; leaves = c; arrives = d; classes = length ls; limits = padded 26 ls }

-- a booking of these legs, that waits
abbrev pub booking_of : ℕ → ℕ → List ℕ → Booking
booking_of c n is = record { class = c; seats = n; stands = 0; until = 0; count = length is; legs = padded 8 is; paid = 0 }
