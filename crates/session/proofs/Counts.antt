-- How many records memory holds, and how many pages their checkpoint has.
use Rattle.std.proofs.Common.{ℕ, ◌+◌, ◌<◌, ◌≤◌, length, arith}
use Rattle.store.specs.Whole.{Sound, house}
use Rattle.store.specs.declared.Memory.{Memory}
use Rattle.store.proofs.Lists.{length_legs, length_fares, length_bookings}
use Rattle.journal_rows.specs.Layout.{leg_pages, fare_pages, booking_pages, most_pages, head, pages}
use Rattle.journal_steps.specs.Steps.{chip_limits}
use Rattle.journal_steps.proofs.Ranges.{most_few}

-- no more than the limits allow
pub within : (m : Memory) → Sound m → (length (house m).legs ≤ m.limits.legs) × (length (house m).fares ≤ m.limits.fares) × (length (house m).bookings ≤ m.limits.bookings)
within m s = (omega (arith, s.opened, length_legs m.legs.now m.opened), omega (arith, s.filed, length_fares m.fares.now m.filed), omega (arith, s.booked, length_bookings m.bookings.now m.sums.now m.booked))

pub few_counts : (m : Memory) → Sound m → (length (house m).legs ≤ 65536) × (length (house m).fares ≤ 65536) × (length (house m).bookings ≤ 1000000)
few_counts m s = let w = within m s in let l = s.limits in (omega (arith, w.0, l.3), omega (arith, w.1, l.4), omega (arith, w.2, l.5))

pub grown : (a b c d e f : ℕ) → a ≤ d → b ≤ e → c ≤ f → leg_pages a + (fare_pages b + booking_pages c) ≤ leg_pages d + (fare_pages e + booking_pages f)
grown a b c d e f p q r = let x : leg_pages a ≤ leg_pages d = omega arith in let y : fare_pages b ≤ fare_pages e = omega arith in let z : booking_pages c ≤ booking_pages f = omega arith in sum (leg_pages a) (fare_pages b) (booking_pages c) (leg_pages d) (fare_pages e) (booking_pages f) x y z
  where
    sum : (a b c d e f : ℕ) → a ≤ d → b ≤ e → c ≤ f → a + (b + c) ≤ d + (e + f)
    sum a b c d e f p q r = omega arith

-- so its checkpoint has no more pages than the largest
pub few_pages : (m : Memory) → Sound m → (pages (head (house m)) ≤ most_pages (chip_limits m.limits)) × (pages (head (house m)) < 145000)
few_pages m s =
    let w = within m s in
    let g : pages (head (house m)) ≤ most_pages (chip_limits m.limits) = grown (length (house m).legs) (length (house m).fares) (length (house m).bookings) m.limits.legs m.limits.fares m.limits.bookings w.0 w.1 w.2 in
    (g, omega (arith, g, most_few (chip_limits m.limits) s.limits))
