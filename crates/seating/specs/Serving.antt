-- Who is served next, when all are served, and the booking that came last. Definitions only: nothing is assumed or proved here.
use Rattle.std.specs.Prelude.{◌≡◌, ℕ, ◌-◌, ◌<◌, ◌≤◌, Bool, true, false, ◌&&◌, List, [], length, take, Some, None, Option, ◌==◌, slice_set}
use Rattle.meaning.specs.Lines.{pick}
use Rattle.meaning.specs.House.{House, Booking, Served, nobody, served, room, serve, serve_one, stand, with_bookings}
use Rattle.meaning.specs.Calls.{the_booking}
use Rattle.meaning.specs.Statements.{some_could}

-- a booking waits, and there is room for it
abbrev pub fits : House → Booking → Bool
fits h b = b.stands == 0 && room h.legs h.bookings b.legs b.class b.seats

-- booking k could be held
abbrev pub could : House → ℕ → Bool
could h k = fits h (the_booking h k)

-- none of the bookings below number n could be
abbrev pub NoneBelow : House → ℕ → Type 0
NoneBelow h n = (j : ℕ) → j < n → could h j ≡ false

-- booking k is the first that could be held
pub record First (h : House) (k : ℕ) : Type 0 where
  pub there : k < length h.bookings
  pub can : could h k ≡ true
  pub before : NoneBelow h k

-- a search found the first that could be held, or there is none
abbrev pub Found : House → Option ℕ → Type 0
Found h None = NoneBelow h (length h.bookings)
Found h (Some k) = First h k

-- the bookings where booking k is held until tick u
abbrev pub held : House → ℕ → ℕ → List Booking
held h u k = slice_set h.bookings k (stand (the_booking h k) 1 u)

-- what one serving makes of what was found
abbrev pub found_served : House → ℕ → Option ℕ → Served
found_served h u None = nobody
found_served h u (Some k) = served (held h u k)

-- what was found is what one serving serves, until whatever tick
abbrev pub OneServing : House → Option ℕ → Type 0
OneServing h r = (u : ℕ) → serve_one h.legs h.bookings h.bookings [] u ≡ found_served h u r

-- nobody waits for what is free
abbrev pub NoneCould : House → Type 0
NoneCould h = some_could h h.bookings ≡ false

-- ALL SERVED: the house where whoever waited was served, each held until tick u, until there is room for none that waits
abbrev pub all_served : House → ℕ → House
all_served h u = with_bookings h (serve (length h.bookings) h.legs h.bookings u)

-- the number of the booking that came last
abbrev pub last : House → ℕ
last h = length h.bookings - 1

-- the house before that booking came
abbrev pub before_last : House → House
before_last h = with_bookings h (take (last h) h.bookings)

-- the last booking is held until tick u, or nothing changes
abbrev pub newest_held : House → ℕ → Bool → House
newest_held h u r = pick r (with_bookings h (held h u (last h))) h

-- the last booking waits, and nobody waited for what was free before it came
pub record Newcomer (h : House) : Type 0 where
  pub some : 1 ≤ length h.bookings
  pub waits : (the_booking h (last h)).stands ≡ 0
  pub idle : NoneCould (before_last h)
