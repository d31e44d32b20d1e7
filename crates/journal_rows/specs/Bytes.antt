-- The 512 bytes of a page. A page is 128 numbers of four bytes each, the lowest byte first; what isn't needed is 0. The first number says what kind of page it is: 1 a commit record, 2 legs, 3 fares,
-- 4 bookings, 5 a call, whose own bytes stand behind the first two numbers. Definitions only: nothing is assumed or proved here.
use Rattle.std.specs.Prelude.{ℕ, zero, suc, ◌+◌, ◌-◌, ◌*◌, ◌/◌, ◌%◌, Bool, ◌&&◌, List, [], ◌∷◌, ◌++◌, length, take, drop, replicate, ◌==◌, nat_le, nat_lt, slice_index, slice_index_or}
use Rattle.std.proofs.Math.Option.{Option, none, some}
use Rattle.meaning.specs.Lines.{pick, Leg, Fare}
use Rattle.meaning.specs.House.{Booking}
use Rattle.meaning.specs.Calls.{Limits}
use Rattle.wire.specs.Bytes.{row_of, numbers_in}
use Rattle.wire.specs.Rows.{encoded, decoded}
use Rattle.records.specs.Words.{padded, leg_read, fare_read, booking_read}
use Rattle.records.specs.Means.{leg_means, fare_means, booking_means}
use Rattle.journal.specs.Slots.{Turn, Commit}
use Rattle.journal.specs.Codes.{turn_number, number_turn}
use Rattle.journal_rows.specs.Layout.{Op, taken_call, some_legs, some_fares, some_bookings, Head, ring_blocks, Bytes}

-- THE BYTES of a page with these numbers
unfoldable pub page : List ℕ → List ℕ
page ns = row_of 4 (padded 128 ns)

-- a leg in 31 numbers, as in memory: from, to, leaves, arrives, how many limits, and 26 places for these
abbrev pub leg_row : Leg → List ℕ
leg_row g = g.from ∷ (g.to ∷ (g.leaves ∷ (g.arrives ∷ (length g.limits ∷ padded 26 g.limits))))

abbrev pub row_leg : List ℕ → Leg
row_leg ns = leg_means (leg_read ns)

-- a fare in 5: origin, goal, class, legs at most, price
abbrev pub fare_row : Fare → List ℕ
fare_row f = f.origin ∷ (f.goal ∷ (f.class ∷ (f.most_legs ∷ (f.price ∷ []))))

abbrev pub row_fare : List ℕ → Fare
row_fare ns = fare_means (fare_read ns)

-- a booking in 15: class, seats, how it stands, until when, how many legs, 8 places for these, and what was paid in two numbers, the lower one first
abbrev pub booking_row : Booking → List ℕ
booking_row b = b.class ∷ (b.seats ∷ (b.stands ∷ (b.until ∷ (length b.legs ∷ (padded 8 b.legs ++ (b.paid % 4294967296 ∷ (b.paid / 4294967296 ∷ [])))))))

abbrev pub row_booking : List ℕ → Booking
row_booking ns = booking_means (booking_read ns (slice_index ns 13 + 4294967296 * slice_index ns 14))

-- the rows of records, one after the other
unfoldable pub all_rows : {X : Type 0} → (X → List ℕ) → List X → List ℕ
all_rows f [] = []
all_rows f (x ∷ xs) = f x ++ all_rows f xs

-- n records of rows of w numbers each
unfoldable pub cut : {X : Type 0} → (List ℕ → X) → ℕ → ℕ → List ℕ → List X
cut u w zero ns = []
cut u w (suc n) ns = u (take w ns) ∷ cut u w n (drop w ns)

-- bytes with zeros behind them, up to a page
abbrev pub filled : List ℕ → List ℕ
filled bs = bs ++ replicate (512 - length bs) 0

-- the page of a call that was taken: its kind, how many bytes the call has, and these
abbrev pub call_page : List ℕ → List ℕ
call_page bs = filled (row_of 4 (5 ∷ (length bs ∷ [])) ++ bs)

-- the bytes of a page, by what it says
abbrev pub row : Op → List ℕ
row (taken_call c) = call_page (encoded c)
row (some_legs gs) = page (2 ∷ (length gs ∷ all_rows leg_row gs))
row (some_fares fs) = page (3 ∷ (length fs ∷ all_rows fare_row fs))
row (some_bookings bs) = page (4 ∷ (length bs ∷ all_rows booking_row bs))

-- what a page says, by its bytes; a page of another kind says nothing
abbrev pub unrow : List ℕ → Option Op
unrow bs =
    let ns : List ℕ = numbers_in bs in
    let kind : ℕ = slice_index_or ns 0 0 in
    let n : ℕ = slice_index_or ns 1 0 in
    pick (kind == 2) (some (some_legs (cut row_leg 31 n (drop 2 ns))))
    (pick (kind == 3) (some (some_fares (cut row_fare 5 n (drop 2 ns))))
    (pick (kind == 4) (some (some_bookings (cut row_booking 15 n (drop 2 ns))))
    (pick (kind == 5) (some (taken_call (decoded (take n (drop 8 bs))))) none)))

-- THE COMMIT RECORD: its kind, its turn, with what the house was opened (gap, hold, and how many legs, fares and bookings there may be), its clock, how many legs, fares and bookings the checkpoint has,
-- and at which page of the ring the log begins
abbrev pub commit_numbers : Limits → Turn → Head → ℕ → List ℕ
commit_numbers l g s p =
    1 ∷ (turn_number g ∷ (l.gap ∷ (l.hold_for ∷ (l.legs ∷ (l.fares ∷ (l.bookings ∷ (s.now ∷ (s.legs ∷ (s.fares ∷ (s.bookings ∷ (p ∷ [])))))))))))

-- are these the numbers of a commit record of a house that was opened so
abbrev pub of_limits : Limits → List ℕ → Bool
of_limits l ns =
    (slice_index ns 0 == 1 && (slice_index ns 2 == l.gap && slice_index ns 3 == l.hold_for))
    && (slice_index ns 4 == l.legs && (slice_index ns 5 == l.fares && slice_index ns 6 == l.bookings))

-- and is what they say within its limits
abbrev pub in_limits : Limits → List ℕ → Bool
in_limits l ns =
    (nat_lt (slice_index ns 7) 16777216 && nat_le (slice_index ns 8) l.legs) && ((nat_le (slice_index ns 9) l.fares && nat_le (slice_index ns 10) l.bookings) && nat_lt (slice_index ns 11) (16 * ring_blocks l))

abbrev pub with_turn : Head → ℕ → Option Turn → Option (Commit Head)
with_turn s p none = none
with_turn s p (some g) = some (record { turn = g; head = s; begins = p })

-- the commit record that numbers are, of a house that was opened so
abbrev pub numbers_commit : Limits → List ℕ → Option (Commit Head)
numbers_commit l ns =
    pick (of_limits l ns && in_limits l ns) (with_turn (record { now = slice_index ns 7; legs = slice_index ns 8; fares = slice_index ns 9; bookings = slice_index ns 10 }) (slice_index ns 11) (number_turn (slice_index ns 1))) none

-- the bytes of all pages
abbrev pub page_bytes : Bytes
page_bytes = record {
  row = row;
  unrow = unrow;
  commit = λ l g s p. page (commit_numbers l g s p);
  uncommit = λ l bs. numbers_commit l (numbers_in bs);
}
