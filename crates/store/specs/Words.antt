-- What the words of memory say: which house that is, and when they are sound. Definitions only: nothing is assumed or proved here.
use Rattle.std.specs.Prelude.{◌≡◌, ℕ, ◌<◌, ◌≤◌, List, map, length}
use Rattle.std.specs.List.{range_with_len}
use Rattle.meaning.specs.Lines as lines
use Rattle.meaning.specs.House.{House, taken}
use Rattle.meaning.specs.House as houses
use Rattle.records.specs.Words.{leg_in, fare_in, booking_in}
use Rattle.records.specs.Means.{leg_means, fare_means, booking_means}
use Rattle.counts.specs.Counts.{count_in}
use Rattle.limits.specs.Opening.{InRange, asks, lengths}
use Rattle.store.specs.Range.{FineLeg, FineFare, FineBooking}
use Rattle.limits.specs.declared.Limits.{Limits}
use Rattle.limits.specs.declared.Sizes.{Sizes}

-- what memory holds: the words and sums, how many legs, fares and bookings there are, the tick it is now, and the limits
pub record Words : Type 0 where
  pub legs : List ℕ
  pub fares : List ℕ
  pub bookings : List ℕ
  pub sums : List ℕ
  pub opened : ℕ
  pub filed : ℕ
  pub booked : ℕ
  pub clock : ℕ
  pub limits : Limits

-- how long its slices are
abbrev pub sizes : Words → Sizes
sizes w = lengths w.legs w.fares w.bookings w.sums

-- a list of the first n of a table
abbrev pub table : {X : Type 0} → (ℕ → X) → ℕ → List X
table f n = map f (range_with_len 0 n)

-- the first n legs, as the meaning has them
unfoldable pub legs_of : List ℕ → ℕ → List lines.Leg
legs_of w n = table (λ i. leg_means (leg_in w i)) n

-- the first n fares
unfoldable pub fares_of : List ℕ → ℕ → List lines.Fare
fares_of w n = table (λ k. fare_means (fare_in w k)) n

-- the first n bookings, of their words and sums
unfoldable pub bookings_of : List ℕ → List ℕ → ℕ → List houses.Booking
bookings_of w s n = table (λ k. booking_means (booking_in w s k)) n

-- the house that such words are
abbrev pub house_of : Words → House
house_of w = record {
  now = w.clock;
  gap = w.limits.gap;
  hold_for = w.limits.hold;
  legs = legs_of w.legs w.opened;
  fares = fares_of w.fares w.filed;
  bookings = bookings_of w.bookings w.sums w.booked;
}

-- such words are sound: as many as the limits ask for, no more records than the limits allow, each of them in range; and for each leg and class what is kept as taken is just what is taken
pub record SoundWords (w : Words) : Type 0 where
  pub limits : InRange w.limits
  pub clock : w.clock < 16777216
  pub legs_fit : (asks w.limits).legs ≤ length w.legs
  pub fares_fit : (asks w.limits).fares ≤ length w.fares
  pub bookings_fit : (asks w.limits).bookings ≤ length w.bookings
  pub sums_fit : (asks w.limits).sums ≤ length w.sums
  pub opened : w.opened ≤ w.limits.legs
  pub filed : w.filed ≤ w.limits.fares
  pub booked : w.booked ≤ w.limits.bookings
  pub legs : (i : ℕ) → i < w.opened → FineLeg (leg_in w.legs i)
  pub fares : (k : ℕ) → k < w.filed → FineFare (fare_in w.fares k)
  pub bookings : (k : ℕ) → k < w.booked → FineBooking w.opened (booking_in w.bookings w.sums k)
  pub counts : (i c : ℕ) → i < w.opened → c < 26 → count_in w.legs i c ≡ taken (bookings_of w.bookings w.sums w.booked) i c
