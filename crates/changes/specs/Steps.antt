-- The steps of a change: whoever waits is served, and what is over is gone. Definitions only: nothing is assumed or proved here.
use Rattle.std.specs.Prelude.{ℕ, Bool, ◌&&◌, ◌||◌, ◌==◌, nat_le, nat_lt}
use Rattle.meaning.specs.House.{House, run_out, serve_all, with_bookings}

-- the house where whoever waited was served, held until now and the time that a hold lasts
abbrev pub then_served : House → House
then_served h = with_bookings h (serve_all h h.bookings)

-- is over at tick t what stands as s until tick u, for a journey that begins at tick b
abbrev pub ended : ℕ → ℕ → ℕ → ℕ → Bool
ended s u b t = (s == 1 && nat_le u t) || (nat_lt s 2 && nat_le b t)

-- the house where what is over at tick t is gone
abbrev pub gone_at : ℕ → House → House
gone_at t h = with_bookings h (run_out t h.legs h.bookings)

-- may so many ticks go by at once
abbrev pub ticks_fit : ℕ → Bool
ticks_fit n = nat_le 1 n && nat_le n 65536
