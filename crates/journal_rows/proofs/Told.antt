-- In a page of legs or bookings in range, the number that counts a leg's limits or a booking's legs is small.
use Rattle.std.proofs.Common.{◌≡◌, ℕ, ◌/◌, ◌%◌, ◌<◌, ◌≤◌, ◌&&◌, ltb, leb, List, [], ◌∷◌, length, get_or, arith, lit<}
use Rattle.std.proofs.lemmas.List.{length-append}
use Rattle.std.proofs.lemmas.Bool.{and_parts, leb-true}
use Rattle.meaning.specs.Lines.{Leg, no_leg}
use Rattle.meaning.specs.House.{Booking}
use Rattle.meaning.specs.Calls.{good_fields}
use Rattle.records.specs.Words.{padded}
use Rattle.journal.specs.Slots.{AllOf}
use Rattle.journal_rows.specs.Layout.{some_legs, some_bookings, FineLeg, FineBooking}
use Rattle.journal_rows.specs.Bytes.{leg_row, booking_row, row}
use Rattle.journal_rows.specs.Sorts.{record_of}
use Rattle.journal_rows.proofs.Ranges.{leg_range}
use Rattle.journal_rows.proofs.ReadBack.{leg_length, length_padded}
use Rattle.journal_rows.proofs.Every.{all_from}
use Rattle.journal_rows.proofs.Cuts.{all_at, page_at}

-- a leg in range has few limits
few_limits : (g : Leg) → FineLeg g → length g.limits ≤ 26
few_limits g f = (leg_range g f).limits.few

pub limits_counted : (bs : List ℕ) (gs : List Leg) → AllOf FineLeg gs → bs ≡ row (some_legs gs) → (k : ℕ) → k < length gs → get_or (record_of 31 bs k) 4 0 ≤ 26
limits_counted bs gs f e k h =
    let few : length (get_or gs k no_leg).limits ≤ 26 = few_limits (get_or gs k no_leg) (all_at FineLeg gs f k no_leg h) in
    let long : AllOf (λ g. length (leg_row g) ≡ 31) gs = all_from FineLeg (λ g. length (leg_row g) ≡ 31) leg_length gs f in
    let n : get_or (record_of 31 bs k) 4 0 ≡ length (get_or gs k no_leg).limits = page_at leg_row 31 gs 2 (length gs) bs e long k 4 no_leg h (lit< tt) (omega arith) in
    omega arith

-- a booking in range has few legs
few_legs : (m : ℕ) (b : Booking) → FineBooking m b → length b.legs ≤ 8
unfolding good_fields
few_legs m b f = leb-true _ _ (and_parts (leb 1 (length b.legs)) (leb (length b.legs) 8) (and_parts (ltb b.class 26 && (leb 1 b.seats && leb b.seats 9)) _ f.fields).1).1

-- so it has 15 numbers
booking_long : (m : ℕ) (b : Booking) → FineBooking m b → length (booking_row b) ≡ 15
booking_long m b f = omega (arith, length_padded 8 b.legs (few_legs m b f), length-append (padded 8 b.legs) (b.paid % 4294967296 ∷ (b.paid / 4294967296 ∷ [])))

-- what stands in the place of a booking that is not there
abbrev no_booking : Booking
no_booking = record { legs = []; class = 0; seats = 0; stands = 3; until = 0; paid = 0 }

pub legs_counted : (bs : List ℕ) (m : ℕ) (xs : List Booking) → AllOf (FineBooking m) xs → bs ≡ row (some_bookings xs) → (k : ℕ) → k < length xs → get_or (record_of 15 bs k) 4 0 ≤ 8
legs_counted bs m xs f e k h =
    let few : length (get_or xs k no_booking).legs ≤ 8 = few_legs m (get_or xs k no_booking) (all_at (FineBooking m) xs f k no_booking h) in
    let long : AllOf (λ b. length (booking_row b) ≡ 15) xs = all_from (FineBooking m) (λ b. length (booking_row b) ≡ 15) (booking_long m) xs f in
    let n : get_or (record_of 15 bs k) 4 0 ≡ length (get_or xs k no_booking).legs = page_at booking_row 15 xs 4 (length xs) bs e long k 4 no_booking h (lit< tt) (omega arith) in
    omega arith
