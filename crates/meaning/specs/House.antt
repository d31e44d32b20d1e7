-- The house: bookings, what is taken, room, who is served, and what runs out. Definitions only: nothing is assumed or proved here.
use Rattle.std.specs.Prelude.{ℕ, zero, suc, ◌+◌, Bool, true, false, ◌&&◌, ◌||◌, List, [], ◌∷◌, ◌++◌, length, ◌==◌, nat_le, nat_lt}
use Rattle.meaning.specs.Lines.{pick, Leg, Fare, leg}

-- a booking of so many seats in a class on some legs; how it stands: 0 waiting, 1 held until a tick, 2 paid, 3 gone
pub record Booking : Type 0 where
  pub legs : List ℕ
  pub class : ℕ
  pub seats : ℕ
  pub stands : ℕ
  pub until : ℕ
  pub paid : ℕ

-- all that is known: the tick it is now, the least time between two legs, how long a hold lasts, and the legs, fares and bookings by number
pub record House : Type 0 where
  pub now : ℕ
  pub gap : ℕ
  pub hold_for : ℕ
  pub legs : List Leg
  pub fares : List Fare
  pub bookings : List Booking

-- is leg i among these legs
unfoldable pub goes : List ℕ → ℕ → Bool
goes [] i = false
goes (j ∷ js) i = j == i || goes js i

-- seats taken on a leg in a class and all cheaper ones: held or paid
unfoldable pub taken : List Booking → ℕ → ℕ → ℕ
taken [] i c = 0
taken (b ∷ bs) i c =
    pick ((b.stands == 1 || b.stands == 2) && (goes b.legs i && nat_le c b.class)) b.seats 0 + taken bs i c

-- may so many more be sold on a leg in a class: every limit from the dearest class to this one holds then
unfoldable pub room_on : List ℕ → List Booking → ℕ → ℕ → ℕ → ℕ → Bool
room_on [] bs i c n j = true
room_on (l ∷ ls) bs i c n j = (nat_lt c j || nat_le (taken bs i j + n) l) && room_on ls bs i c n (suc j)

-- is there room for n seats in class c on every leg of a journey
unfoldable pub room : List Leg → List Booking → List ℕ → ℕ → ℕ → Bool
room ls bs [] c n = true
room ls bs (i ∷ is) c n = room_on (leg ls i).limits bs i c n 0 && room ls bs is c n

-- the same booking, standing otherwise, until another tick
abbrev pub stand : Booking → ℕ → ℕ → Booking
stand b s u = record { legs = b.legs; class = b.class; seats = b.seats; stands = s; until = u; paid = b.paid }

-- what one serving finds: nobody for whom there is room, or the bookings as they are then
pub data Served : Type 0 where
  nobody : Served
  served : List Booking → Served

-- of those who wait, in the order of numbers, the first for whom there is room is held until tick u; 'done' are those already passed over
unfoldable pub serve_one : List Leg → List Booking → List Booking → List Booking → ℕ → Served
serve_one ls all [] done u = nobody
serve_one ls all (b ∷ bs) done u =
    pick (b.stands == 0 && room ls all b.legs b.class b.seats) (served (done ++ (stand b 1 u ∷ bs))) (serve_one ls all bs (done ++ (b ∷ [])) u)

-- go on with f where somebody was served
unfoldable pub serve_on : Served → List Booking → (List Booking → List Booking) → List Booking
serve_on nobody bs f = bs
serve_on (served cs) bs f = f cs

-- serve one, and again from the first, at most n times
unfoldable pub serve : ℕ → List Leg → List Booking → ℕ → List Booking
serve zero ls bs u = bs
serve (suc n) ls bs u = serve_on (serve_one ls bs bs [] u) bs (λ cs. serve n ls cs u)

-- serve until there is room for none that waits: each serving leaves one fewer waiting, so as many turns as bookings are enough
abbrev pub serve_all : House → List Booking → List Booking
serve_all h bs = serve (length bs) h.legs bs (h.now + h.hold_for)

-- the leg with which a journey begins
unfoldable pub first_leg : List ℕ → ℕ
first_leg [] = 0
first_leg (i ∷ is) = i

-- is a booking over at tick t: a hold whose time has come, or what waits or is held for a journey that has begun
abbrev pub over : ℕ → List Leg → Booking → Bool
over t ls b = (b.stands == 1 && nat_le b.until t) || (nat_lt b.stands 2 && nat_le (leg ls (first_leg b.legs)).leaves t)

-- all bookings at tick t: what is over is gone
unfoldable pub run_out : ℕ → List Leg → List Booking → List Booking
run_out t ls [] = []
run_out t ls (b ∷ bs) = pick (over t ls b) (stand b 3 0 ∷ run_out t ls bs) (b ∷ run_out t ls bs)

-- the same house with other bookings
abbrev pub with_bookings : House → List Booking → House
with_bookings h bs = record { now = h.now; gap = h.gap; hold_for = h.hold_for; legs = h.legs; fares = h.fares; bookings = bs }
