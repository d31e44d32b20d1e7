-- What the pages of the journal say of the house: calls that were taken, and checkpoints, several records to a page; and how the blocks of a chip are shared out. Definitions only: nothing is assumed or proved here.
use Rattle.std.specs.Prelude.{◌≡◌, ℕ, zero, suc, ◌+◌, ◌-◌, ◌*◌, ◌/◌, ◌<◌, ◌≤◌, Bool, true, false, ◌&&◌, List, [], ◌∷◌, ◌++◌, map, length, take, drop, ◌==◌, nat_lt}
use Rattle.std.proofs.Math.Option.{Option}
use Rattle.meaning.specs.Lines.{pick, Leg, Fare}
use Rattle.meaning.specs.House.{Booking, House}
use Rattle.meaning.specs.Calls.{Call, opens, files, books, pays, cancels, limits_to, ticks, free, price_of, booking, leg_is, garbled, Answer, Limits, good_fields, no_twice, turned, after, answer, new_house}
use Rattle.meaning.specs.Chip.{Chip}
use Rattle.meaning.specs.Promise.{GoodLimits, readable, room_for}
use Rattle.journal.specs.Programs.{Program}
use Rattle.meaning.specs.Statements.{Reached}
use Rattle.journal.specs.Machine.{Machine, ReadsBy}
use Rattle.journal.specs.Slots.{Turn, Commit, whole_row, AllOf, Rows, journal_program, SlotsHold}

-- THE HOUSE AS A MACHINE that a journal can keep
abbrev pub house : Limits → Machine Call Answer
house l = record { State = House; initial = new_house l; after = after l; answer = answer l; readable = readable }

-- what a page of a checkpoint or of the log says: some legs, fares or bookings of the house, in their order; or a call that was taken
pub data Op : Type 0 where
  taken_call : Call → Op
  some_legs : List Leg → Op
  some_fares : List Fare → Op
  some_bookings : List Booking → Op

-- what such a page makes of a house: the records come behind those that are there; a call is done
abbrev pub op_done : Limits → House → Op → House
op_done l h (taken_call c) = after l h c
op_done l h (some_legs gs) = record { now = h.now; gap = h.gap; hold_for = h.hold_for; legs = h.legs ++ gs; fares = h.fares; bookings = h.bookings }
op_done l h (some_fares fs) = record { now = h.now; gap = h.gap; hold_for = h.hold_for; legs = h.legs; fares = h.fares ++ fs; bookings = h.bookings }
op_done l h (some_bookings bs) = record { now = h.now; gap = h.gap; hold_for = h.hold_for; legs = h.legs; fares = h.fares; bookings = h.bookings ++ bs }

-- n handfuls of k, one after the other
unfoldable pub packs : {X : Type 0} → ℕ → ℕ → List X → List (List X)
packs k zero xs = []
packs k (suc n) xs = take k xs ∷ packs k n (drop k xs)

-- how many pages so many legs take, 4 to a page
abbrev pub leg_pages : ℕ → ℕ
leg_pages n = (n + 3) / 4

-- fares, 25 to a page
abbrev pub fare_pages : ℕ → ℕ
fare_pages n = (n + 24) / 25

-- bookings, 8 to a page
abbrev pub booking_pages : ℕ → ℕ
booking_pages n = (n + 7) / 8

-- THE PAGES OF A CHECKPOINT after its commit record: legs, then fares, then bookings
abbrev pub checkpoint : House → List Op
checkpoint h =
    map some_legs (packs 4 (leg_pages (length h.legs)) h.legs)
    ++ (map some_fares (packs 25 (fare_pages (length h.fares)) h.fares) ++ map some_bookings (packs 8 (booking_pages (length h.bookings)) h.bookings))

-- the same by number: what page j of these says
abbrev pub checkpoint_page : House → ℕ → Op
checkpoint_page h j =
    let a : ℕ = leg_pages (length h.legs) in
    let b : ℕ = fare_pages (length h.fares) in
    pick (nat_lt j a) (some_legs (take 4 (drop (j * 4) h.legs)))
    (pick (nat_lt (j - a) b) (some_fares (take 25 (drop ((j - a) * 25) h.fares))) (some_bookings (take 8 (drop (((j - a) - b) * 8) h.bookings))))

-- what a commit record says beside its turn and where the log begins: the clock, and how many records its checkpoint has
pub record Head : Type 0 where
  pub now : ℕ
  pub legs : ℕ
  pub fares : ℕ
  pub bookings : ℕ

-- the head of a house
abbrev pub head : House → Head
head h = record { now = h.now; legs = length h.legs; fares = length h.fares; bookings = length h.bookings }

-- the house with which reading a checkpoint begins
abbrev pub opened : Limits → Head → House
opened l s = record { now = s.now; gap = l.gap; hold_for = l.hold_for; legs = []; fares = []; bookings = [] }

-- how many pages a checkpoint with this head has
abbrev pub pages : Head → ℕ
pages s = leg_pages s.legs + (fare_pages s.fares + booking_pages s.bookings)

-- calls that can change the house
unfoldable pub is_change : Call → Bool
is_change (opens a b c d ls) = true
is_change (files a b c n p) = true
is_change (books c n is) = true
is_change (pays k) = true
is_change (cancels k) = true
is_change (limits_to i ls) = true
is_change (ticks n) = true
is_change (free i c) = false
is_change (price_of c is) = false
is_change (booking k) = false
is_change (leg_is i) = false
is_change (garbled n) = false

-- calls that do: those that can and are not refused
abbrev pub changes : Limits → House → Call → Bool
changes l h c = turned l h c == 0 && is_change c

-- a leg in range: as the call that opens it has to be
abbrev pub FineLeg : Leg → Type 0
FineLeg g = good_fields (opens g.from g.to g.leaves g.arrives g.limits) ≡ true

-- a fare in range: as the call that files it has to be
abbrev pub FineFare : Fare → Type 0
FineFare f = good_fields (files f.origin f.goal f.class f.most_legs f.price) ≡ true

-- a booking in range, in a house of so many legs: its class, seats and legs are as the call that books it has to be, its legs are there and none of them twice; and how it stands, until when, and what
-- was paid can be
pub record FineBooking (n : ℕ) (b : Booking) : Type 0 where
  pub fields : good_fields (books b.class b.seats b.legs) ≡ true
  pub there : AllOf (λ i. i < n) b.legs
  pub apart : no_twice b.legs ≡ true
  pub stands : b.stands ≤ 3
  pub until : b.until < 16842752
  pub paid : b.paid ≤ 7200000000

-- what can be written into a page
abbrev pub Fine : Op → Type 0
Fine (taken_call c) = (readable c ≡ true) × (good_fields c ≡ true) × (is_change c ≡ true)
Fine (some_legs gs) = (length gs ≤ 4) × AllOf FineLeg gs
Fine (some_fares fs) = (length fs ≤ 25) × AllOf FineFare fs
Fine (some_bookings bs) = (length bs ≤ 8) × AllOf (FineBooking 65536) bs

-- HOUSES THAT A JOURNAL CAN KEEP: those that calls lead to, with all records in range
pub record Good (l : Limits) (h : House) : Type 0 where
  pub sizes : GoodLimits l
  pub reached : Reached l h
  pub gap_is : l.gap ≡ h.gap
  pub hold_is : l.hold_for ≡ h.hold_for
  pub early : h.now < 16777216
  pub few_legs : length h.legs ≤ l.legs
  pub few_fares : length h.fares ≤ l.fares
  pub few_bookings : length h.bookings ≤ l.bookings
  pub fine_legs : AllOf FineLeg h.legs
  pub fine_fares : AllOf FineFare h.fares
  pub fine_bookings : AllOf (FineBooking (length h.legs)) h.bookings

-- the pages of the largest checkpoint
abbrev pub most_pages : Limits → ℕ
most_pages l = leg_pages l.legs + (fare_pages l.fares + booking_pages l.bookings)

-- a slot has a block for its commit record and those that the largest checkpoint takes
unfoldable pub slot_blocks : Limits → ℕ
slot_blocks l = 1 + (most_pages l + 15) / 16

-- the ring has all blocks but those of the two slots
unfoldable pub ring_blocks : Limits → ℕ
ring_blocks l = room_for l - 2 * slot_blocks l

-- the bytes of a page: of what it says, and of a commit record; and back
pub record Bytes : Type 0 where
  pub row : Op → List ℕ
  pub unrow : List ℕ → Option Op
  pub commit : Limits → Turn → Head → ℕ → List ℕ
  pub uncommit : Limits → List ℕ → Option (Commit Head)

-- what was written reads back, and fills a page
pub record IsReadBack (k : Bytes) : Type 0 where
  pub unrow_row : (o : Op) → Fine o → k.unrow (k.row o) ≡ Option.some o
  pub row_whole : (o : Op) → Fine o → whole_row (k.row o) ≡ true
  pub uncommit_commit : (l : Limits) (g : Turn) (h : House) (p : ℕ) → Good l h → p < 16 * ring_blocks l → k.uncommit l (k.commit l g (head h) p) ≡ Option.some (record { turn = g; head = head h; begins = p })
  pub commit_whole : (l : Limits) (g : Turn) (h : House) (p : ℕ) → Good l h → whole_row (k.commit l g (head h) p) ≡ true

-- the house's rows, for the journal
abbrev pub rows : (l : Limits) → Bytes → Rows (house l)
rows l k = record {
  Op = Op;
  call = taken_call;
  acted = op_done l;
  changes = changes l;
  row = k.row;
  unrow = k.unrow;
  Head = Head;
  head = head;
  opened = opened l;
  pages = pages;
  commit = k.commit l;
  uncommit = k.uncommit l;
  checkpoint = checkpoint;
  Good = Good l;
}

-- THE PROGRAM: the house kept by a journal
abbrev pub program : Bytes → Limits → Program Call Answer
program k l = journal_program (house l) (slot_blocks l) (ring_blocks l) (rows l k)

-- a chip reads as calls if it holds the house after them
abbrev pub Reads : (l : Limits) → Bytes → Chip → List Call → Type 0
Reads l k = ReadsBy (house l) (SlotsHold (house l) (slot_blocks l) (ring_blocks l) (rows l k))
