-- Legs, fares and bookings as the pages of a checkpoint have them, all three by one definition: several records of one sort to a page. Definitions only: nothing is assumed or proved here.
use Rattle.std.specs.Prelude.{◌≡◌, ℕ, ◌*◌, ◌<◌, ◌≤◌, List, ◌∷◌, ◌++◌, length, take, drop, slice_index}
use Rattle.std.proofs.Math.Option as plain
use Rattle.meaning.specs.Lines.{Leg, Fare}
use Rattle.meaning.specs.House.{Booking, House, with_bookings}
use Rattle.meaning.specs.Calls as calls
use Rattle.wire.specs.Bytes.{numbers_in}
use Rattle.limits.specs.declared.Limits.{Limits}
use Rattle.journal.specs.Slots.{AllOf}
use Rattle.journal_rows.specs.Layout.{Op, some_legs, some_fares, some_bookings, op_done, Fine, FineLeg, FineFare, FineBooking, IsReadBack}
use Rattle.journal_rows.specs.Bytes.{page, all_rows, cut, row, unrow, leg_row, fare_row, booking_row, row_leg, row_fare, row_booking, page_bytes}

-- A SORT OF RECORDS: how many numbers each has, how many of them go on a page, and the kind of such a page; the numbers of a record, and the record of numbers; which records a house has, the house with
-- others in their place, and how many there may be; what a page of them says; which are in range in a house; and what the numbers of one in range always are
pub record Sort (X : Type 0) : Type 1 where
  pub width : ℕ
  pub to_page : ℕ
  pub kind : ℕ
  pub row : X → List ℕ
  pub read : List ℕ → X
  pub its : House → List X
  pub put : House → List X → House
  pub most : Limits → ℕ
  pub op : List X → Op
  pub FineIn : House → X → Type 0
  pub Counted : List ℕ → Type 0

-- legs, of 31 numbers, 4 to a page; the fifth number says how many limits a leg has
abbrev pub leg_sort : Sort Leg
leg_sort = record {
  width = 31;
  to_page = 4;
  kind = 2;
  row = leg_row;
  read = row_leg;
  its = λ h. h.legs;
  put = λ h gs. record { now = h.now; gap = h.gap; hold_for = h.hold_for; legs = gs; fares = h.fares; bookings = h.bookings };
  most = λ l. l.legs;
  op = some_legs;
  FineIn = λ h. FineLeg;
  Counted = λ ws. slice_index ws 4 ≤ 26;
}

-- fares, of 5 numbers, 25 to a page
abbrev pub fare_sort : Sort Fare
fare_sort = record {
  width = 5;
  to_page = 25;
  kind = 3;
  row = fare_row;
  read = row_fare;
  its = λ h. h.fares;
  put = λ h fs. record { now = h.now; gap = h.gap; hold_for = h.hold_for; legs = h.legs; fares = fs; bookings = h.bookings };
  most = λ l. l.fares;
  op = some_fares;
  FineIn = λ h. FineFare;
  Counted = λ ws. Unit {0};
}

-- bookings, of 15 numbers, 8 to a page; the fifth number says how many legs a booking has
abbrev pub booking_sort : Sort Booking
booking_sort = record {
  width = 15;
  to_page = 8;
  kind = 4;
  row = booking_row;
  read = row_booking;
  its = λ h. h.bookings;
  put = with_bookings;
  most = λ l. l.bookings;
  op = some_bookings;
  FineIn = λ h. FineBooking (length h.legs);
  Counted = λ ws. slice_index ws 4 ≤ 8;
}

-- the numbers of record k of a page, of records of w numbers each
abbrev pub record_of : ℕ → List ℕ → ℕ → List ℕ
record_of w bs k = take w (drop (k * w) (drop 2 (numbers_in bs)))

-- the kind of a page, and how many records it says that it has
abbrev pub kind_in : List ℕ → ℕ
kind_in bs = slice_index (numbers_in bs) 0

abbrev pub count_in : List ℕ → ℕ
count_in bs = slice_index (numbers_in bs) 1

module _ {X : Type 0} (s : Sort X) where
  -- as many records of a house as a page has, from the first on
  abbrev pub page_of : House → ℕ → Op
  page_of h first = s.op (take s.to_page (drop first (s.its h)))

  -- the first n records of a page
  abbrev pub records_in : List ℕ → ℕ → List X
  records_in bs n = cut s.read s.width n (drop 2 (numbers_in bs))

  -- a house with the first n records of a page behind its own
  abbrev pub with_first : List ℕ → House → ℕ → House
  with_first bs h n = s.put h (s.its h ++ records_in bs n)

  -- no page of n records in range, in a house, has these bytes
  abbrev pub NoneSo : List ℕ → House → ℕ → Type 0
  NoneSo bs h n = (xs : List X) → Fine (s.op xs) → AllOf (s.FineIn h) xs → length xs ≡ n → bs ≡ row (s.op xs) → IsReadBack page_bytes → ⊥

  -- THE LAWS of a sort: a house's records can be others, and only they are; what a page of records says is done by putting them behind the others; its bytes are its records' numbers, which fit it; what it says is
  -- known by its kind; and the numbers of a record in range are counted
  pub record IsSort : Type 0 where
    pub same : (h : House) → h ≡ s.put h (s.its h)
    pub over : (h : House) (xs ys : List X) → s.put (s.put h xs) ys ≡ s.put h ys
    pub gets : (h : House) (xs : List X) → s.its (s.put h xs) ≡ xs
    pub done : (l : calls.Limits) (h : House) (xs : List X) → s.put h (s.its h ++ xs) ≡ op_done l h (s.op xs)
    pub fine : (h : House) (xs : List X) (x : X) → s.FineIn h x → s.FineIn (s.put h xs) x
    pub bytes : (xs : List X) → row (s.op xs) ≡ page (s.kind ∷ (length xs ∷ all_rows s.row xs))
    pub some : 0 < s.width
    pub fits : s.to_page * s.width ≤ 126
    pub says : (bs : List ℕ) → kind_in bs ≡ s.kind → unrow bs ≡ plain.Option.some (s.op (records_in bs (count_in bs)))
    pub are : (bs : List ℕ) (xs : List X) → unrow bs ≡ plain.Option.some (s.op xs) → (kind_in bs ≡ s.kind) × (records_in bs (count_in bs) ≡ xs)
    pub counted : (h : House) (bs : List ℕ) (xs : List X) → AllOf (s.FineIn h) xs → bs ≡ row (s.op xs) → (k : ℕ) → k < length xs → s.Counted (record_of s.width bs k)

-- all three are sorts of records
pub record SortsLawful : Type 0 where
  pub legs : IsSort leg_sort
  pub fares : IsSort fare_sort
  pub bookings : IsSort booking_sort
