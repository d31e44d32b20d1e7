-- Calls, refusals, answers and runs: what agents enter and ask, when it is refused, what it changes, and what is answered. Definitions only: nothing is assumed or proved here.
use Rattle.std.specs.Prelude.{ℕ, zero, suc, ◌+◌, ◌-◌, ◌*◌, Bool, true, not, ◌&&◌, ◌||◌, List, [], ◌∷◌, ◌++◌, length, ◌==◌, nat_le, nat_lt, slice_index_or, slice_set}
use Rattle.meaning.specs.Lines.{pick, Leg, leg, follows, cost}
use Rattle.meaning.specs.House.{Booking, House, goes, taken, room, stand, serve_all, first_leg, run_out, with_bookings}

-- what can be asked for
pub data Call : Type 0 where
  opens : ℕ → ℕ → ℕ → ℕ → List ℕ → Call  -- a new leg: from, to, leaves, arrives, limits
  files : ℕ → ℕ → ℕ → ℕ → ℕ → Call  -- a new fare: origin, goal, class, legs at most, price
  books : ℕ → ℕ → List ℕ → Call  -- a new booking: class, seats, legs
  pays : ℕ → Call  -- a booking that is held is paid, at the price of this moment
  cancels : ℕ → Call  -- a booking is gone
  limits_to : ℕ → List ℕ → Call  -- a leg has other limits from now on
  ticks : ℕ → Call  -- so much time goes by
  free : ℕ → ℕ → Call  -- on a leg, in a class: how many seats could be had now
  price_of : ℕ → List ℕ → Call  -- of a seat in a class on some legs
  booking : ℕ → Call  -- how a booking stands
  leg_is : ℕ → Call  -- what is taken on a leg
  garbled : ℕ → Call  -- what can't be read as a call; the place from which on it is none

-- what is answered
pub data Answer : Type 0 where
  refused : ℕ → ℕ → Answer  -- a refusal by its number, and its place in the call
  number : ℕ → Answer
  two : ℕ → ℕ → Answer  -- a new booking's number, and how it stands
  stands_so : ℕ → ℕ → ℕ → Answer  -- how a booking stands, until when, what was paid
  sold : List ℕ → Answer  -- on a leg: taken in each class and the cheaper ones

-- with what a house is opened: which calls, by number, can be done at this stage, the least time between two legs, how long a hold lasts, and how many legs, fares and bookings there may be
pub record Limits : Type 0 where
  pub calls_can : ℕ → Bool
  pub gap : ℕ
  pub hold_for : ℕ
  pub legs : ℕ
  pub fares : ℕ
  pub bookings : ℕ

-- the number of each call; what can't be read counts as 255
unfoldable pub call_number : Call → ℕ
call_number (opens a b c d ls) = 0
call_number (files a b c n p) = 1
call_number (books c n is) = 2
call_number (pays k) = 3
call_number (cancels k) = 4
call_number (limits_to i ls) = 5
call_number (ticks n) = 6
call_number (free i c) = 7
call_number (price_of c is) = 8
call_number (booking k) = 9
call_number (leg_is i) = 10
call_number (garbled n) = 255

-- do numbers never rise
unfoldable pub falling : List ℕ → Bool
falling [] = true
falling (a ∷ []) = true
falling (a ∷ (b ∷ bs)) = nat_le b a && falling (b ∷ bs)

-- is every number at most m
unfoldable pub all_to : ℕ → List ℕ → Bool
all_to m [] = true
all_to m (a ∷ xs) = nat_le a m && all_to m xs

-- limits of a leg: 1 to 26 of them, none above a dearer class's, none above 1,000
abbrev pub good_limits : List ℕ → Bool
good_limits ls = (nat_le 1 (length ls) && nat_le (length ls) 26) && (falling ls && all_to 1000 ls)

-- are all numbers of a call in their range, whatever the house holds
unfoldable pub good_fields : Call → Bool
good_fields (opens a b c d ls) = (nat_lt a 65536 && nat_lt b 65536) && ((nat_lt c d && nat_lt d 16777216) && good_limits ls)
good_fields (files a b c n p) = (nat_lt a 65536 && nat_lt b 65536) && ((nat_lt c 26 && (nat_le 1 n && nat_le n 8)) && nat_le p 100000000)
good_fields (books c n is) = (nat_lt c 26 && (nat_le 1 n && nat_le n 9)) && (nat_le 1 (length is) && nat_le (length is) 8)
good_fields (pays k) = true
good_fields (cancels k) = true
good_fields (limits_to i ls) = good_limits ls
good_fields (ticks n) = nat_le 1 n && nat_le n 65536
good_fields (free i c) = nat_lt c 26
good_fields (price_of c is) = nat_lt c 26 && (nat_le 1 (length is) && nat_le (length is) 8)
good_fields (booking k) = true
good_fields (leg_is i) = true
good_fields (garbled n) = true

-- can a call be done at this stage, with its numbers in range
abbrev pub good_call : Limits → Call → Bool
good_call l c = (call_number c == 255 || l.calls_can (call_number c)) && good_fields c

-- are all these legs there, each with class c
unfoldable pub all_there : List Leg → ℕ → List ℕ → Bool
all_there ls c [] = true
all_there ls c (i ∷ is) = (nat_lt i (length ls) && nat_lt c (length (leg ls i).limits)) && all_there ls c is

-- is no leg there twice
unfoldable pub no_twice : List ℕ → Bool
no_twice [] = true
no_twice (i ∷ is) = not (goes is i) && no_twice is

-- the booking of a number; one that is not there is as if it were gone
abbrev pub the_booking : House → ℕ → Booking
the_booking h k = slice_index_or h.bookings k (record { legs = []; class = 0; seats = 0; stands = 3; until = 0; paid = 0 })

-- by which refusal a call in range is turned away, 0 if by none, the first that applies: 1 no call, 4 no such leg or class there, 5 legs that don't follow each other, or have left, 6 no fare,
-- 7 no such booking, 8 a booking that doesn't stand so, 9 above the limits of the house
unfoldable pub turned_by : Limits → House → Call → ℕ
turned_by l h (opens a b c d ls) = pick (nat_lt h.now c) (pick (nat_lt (length h.legs) l.legs) 0 9) 5
turned_by l h (files a b c n p) = pick (nat_lt (length h.fares) l.fares) 0 9
turned_by l h (books c n is) =
    pick (all_there h.legs c is) (pick (follows h.legs h.gap is && (no_twice is && nat_lt h.now (leg h.legs (first_leg is)).leaves))
    (pick (cost h.fares h.legs c is == 0) 6 (pick (nat_lt (length h.bookings) l.bookings) 0 9)) 5) 4
turned_by l h (pays k) = pick (nat_lt k (length h.bookings)) (pick ((the_booking h k).stands == 1) 0 8) 7
turned_by l h (cancels k) = pick (nat_lt k (length h.bookings)) (pick (nat_lt (the_booking h k).stands 3) 0 8) 7
turned_by l h (limits_to i ls) = pick (nat_lt i (length h.legs) && length ls == length (leg h.legs i).limits) 0 4
turned_by l h (ticks n) = pick (nat_lt (h.now + n) 16777216) 0 9
turned_by l h (free i c) = pick (nat_lt i (length h.legs) && nat_lt c (length (leg h.legs i).limits)) 0 4
turned_by l h (price_of c is) =
    pick (all_there h.legs c is) (pick (follows h.legs h.gap is && no_twice is) (pick (cost h.fares h.legs c is == 0) 6 0) 5) 4
turned_by l h (booking k) = pick (nat_lt k (length h.bookings)) 0 7
turned_by l h (leg_is i) = pick (nat_lt i (length h.legs)) 0 4
turned_by l h (garbled n) = 1

-- THE REFUSAL of a call, 0 where it is taken: 2, for what is out of range or can't be done at this stage, comes before what the house holds
abbrev pub turned : Limits → House → Call → ℕ
turned l h c = pick (good_call l c) (turned_by l h c) 2

-- the place of a refusal: which field of the call, counted from 0, or the first byte that can't be read
unfoldable pub place : Call → ℕ → ℕ
place (opens a b c d ls) n = pick (n == 5) 2 0
place (files a b c n p) m = 0
place (books c n is) m = pick (m == 4 || (m == 5 || m == 6)) 2 0
place (pays k) n = 0
place (cancels k) n = 0
place (limits_to i ls) n = 0
place (ticks n) m = 0
place (free i c) n = 0
place (price_of c is) n = pick (n == 2) 0 1
place (booking k) n = 0
place (leg_is i) n = 0
place (garbled k) n = k

-- the same leg with other limits
abbrev pub with_limits : Leg → List ℕ → Leg
with_limits g ls = record { from = g.from; to = g.to; leaves = g.leaves; arrives = g.arrives; limits = ls }

-- what a call that is taken makes of the house; after each one that books, cancels, changes limits or lets time go by, whoever waits is served
unfoldable pub changed : House → Call → House
changed h (opens a b c d ls) =
    record {
      now = h.now;
      gap = h.gap;
      hold_for = h.hold_for;
      legs = h.legs ++ (record { from = a; to = b; leaves = c; arrives = d; limits = ls } ∷ []);
      fares = h.fares;
      bookings = h.bookings;
    }
changed h (files a b c n p) =
    record {
      now = h.now;
      gap = h.gap;
      hold_for = h.hold_for;
      legs = h.legs;
      fares = h.fares ++ (record { origin = a; goal = b; class = c; most_legs = n; price = p } ∷ []);
      bookings = h.bookings;
    }
changed h (books c n is) =
    with_bookings h (serve_all h (h.bookings ++ (record { legs = is; class = c; seats = n; stands = 0; until = 0; paid = 0 } ∷ [])))
changed h (pays k) =
    let b : Booking = the_booking h k in
    with_bookings h (slice_set h.bookings k (record { legs = b.legs; class = b.class; seats = b.seats; stands = 2; until = 0; paid = b.seats * (cost h.fares h.legs b.class b.legs - 1) }))
changed h (cancels k) = with_bookings h (serve_all h (slice_set h.bookings k (stand (the_booking h k) 3 0)))
changed h (limits_to i ls) =
    let g : House = record { now = h.now; gap = h.gap; hold_for = h.hold_for; legs = slice_set h.legs i (with_limits (leg h.legs i) ls); fares = h.fares; bookings = h.bookings } in
    with_bookings g (serve_all g g.bookings)
changed h (ticks n) =
    let g : House = record { now = h.now + n; gap = h.gap; hold_for = h.hold_for; legs = h.legs; fares = h.fares; bookings = run_out (h.now + n) h.legs h.bookings } in
    with_bookings g (serve_all g g.bookings)
changed h (free i c) = h
changed h (price_of c is) = h
changed h (booking k) = h
changed h (leg_is i) = h
changed h (garbled n) = h

-- THE HOUSE AFTER a call: one that is refused changes nothing
abbrev pub after : Limits → House → Call → House
after l h c = pick (turned l h c == 0) (changed h c) h

-- how many could be had on a leg in a class: the largest n up to 1,000 for which there is room
unfoldable pub most : ℕ → List Leg → List Booking → ℕ → ℕ → ℕ
most zero ls bs i c = 0
most (suc n) ls bs i c = pick (room ls bs (i ∷ []) c (suc n)) (suc n) (most n ls bs i c)

-- what is taken on leg i, for each of n classes from c on
unfoldable pub each_class : List Booking → ℕ → ℕ → ℕ → List ℕ
each_class bs i c zero = []
each_class bs i c (suc n) = taken bs i c ∷ each_class bs i (suc c) n

-- what a call that is taken is answered
unfoldable pub told : House → Call → Answer
told h (opens a b c d ls) = number (length h.legs)
told h (files a b c n p) = number (length h.fares)
told h (books c n is) = two (length h.bookings) (the_booking (changed h (books c n is)) (length h.bookings)).stands
told h (pays k) = number (the_booking (changed h (pays k)) k).paid
told h (cancels k) = number k
told h (limits_to i ls) = number i
told h (ticks n) = number (h.now + n)
told h (free i c) = number (most 1000 h.legs h.bookings i c)
told h (price_of c is) = number (cost h.fares h.legs c is - 1)
told h (booking k) = stands_so (the_booking h k).stands (the_booking h k).until (the_booking h k).paid
told h (leg_is i) = sold (each_class h.bookings i 0 (length (leg h.legs i).limits))
told h (garbled n) = number 0

-- THE ANSWER to a call
abbrev pub answer : Limits → House → Call → Answer
answer l h c = pick (turned l h c == 0) (told h c) (refused (turned l h c) (place c (turned l h c)))

-- the answers to a list of calls, each on the house as the calls before left it
unfoldable pub answers : Limits → House → List Call → List Answer
answers l h [] = []
answers l h (c ∷ cs) = answer l h c ∷ answers l (after l h c) cs

-- the house after a list of calls
unfoldable pub ran : Limits → House → List Call → House
ran l h [] = h
ran l h (c ∷ cs) = ran l (after l h c) cs

-- a house on its first day: tick 0, and nothing there
abbrev pub new_house : Limits → House
new_house l = record { now = 0; gap = l.gap; hold_for = l.hold_for; legs = []; fares = []; bookings = [] }
