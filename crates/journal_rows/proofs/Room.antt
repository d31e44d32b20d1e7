-- There is room: two slots and a ring of two blocks more than a slot fit the chip that the limits ask for.
use Rattle.std.proofs.Common.{ℕ, ◌+◌, ◌*◌, ◌/◌, ◌≤◌, arith}
use Rattle.meaning.specs.Calls.{Limits}
use Rattle.meaning.specs.Promise.{room_for}
use Rattle.journal_rows.specs.Layout.{leg_pages, fare_pages, booking_pages, most_pages, slot_blocks}

-- a quarter of the records, and three
pages_most : (a b c : ℕ) → 4 * (leg_pages a + (fare_pages b + booking_pages c)) ≤ (a + b + c) + 12
pages_most a b c = let x : 4 * leg_pages a ≤ a + 3 = omega arith in let y : 4 * fare_pages b ≤ b + 4 = omega arith in let z : 4 * booking_pages c ≤ c + 4 = omega arith in add_up (leg_pages a) (fare_pages b) (booking_pages c) a b c x y z
  where
    add_up : (p q r a b c : ℕ) → 4 * p ≤ a + 3 → 4 * q ≤ b + 4 → 4 * r ≤ c + 4 → 4 * (p + (q + r)) ≤ (a + b + c) + 12
    add_up p q r a b c x y z = omega arith

pub slot_most : (l : Limits) → 64 * slot_blocks l ≤ (l.legs + l.fares + l.bookings) + 136
unfolding slot_blocks
slot_most l = blocks (most_pages l) (l.legs + l.fares + l.bookings) (pages_most l.legs l.fares l.bookings)
  where
    blocks : (p n : ℕ) → 4 * p ≤ n + 12 → 64 * (1 + (p + 15) / 16) ≤ n + 136
    blocks p n h = omega arith

-- so three slots and two blocks are no more than the chip has
pub thrice : (l : Limits) → 3 * slot_blocks l + 2 ≤ room_for l
thrice l = fit (slot_blocks l) (l.legs + l.fares + l.bookings) (slot_most l)
  where
    fit : (s n : ℕ) → 64 * s ≤ n + 136 → 3 * s + 2 ≤ n / 8 + 16
    fit s n h = omega arith
