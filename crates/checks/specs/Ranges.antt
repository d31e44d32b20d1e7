-- The ranges of the numbers of calls. Definitions only: nothing is assumed or proved here.
use Rattle.std.specs.Prelude.{ℕ, Bool, ◌&&◌, nat_le, nat_lt}
use Rattle.records.specs.declared.Leg.{Leg}
use Rattle.records.specs.declared.Fare.{Fare}
use Rattle.checks.specs.declared.Schedule.{Schedule}

-- between which places a leg goes, and when
abbrev pub schedule_of : Leg → Schedule
schedule_of g = record { from = g.from; to = g.to; leaves = g.leaves; arrives = g.arrives }

-- the numbers of a leg in range, but for its limits
abbrev pub leg_fits : ℕ → ℕ → ℕ → ℕ → Bool
leg_fits a b c d = (nat_lt a 65536 && nat_lt b 65536) && (nat_lt c d && nat_lt d 16777216)

-- the same of a schedule
abbrev pub schedule_fits : Schedule → Bool
schedule_fits s = leg_fits s.from s.to s.leaves s.arrives

-- the numbers of a fare in range
abbrev pub fare_fits : Fare → Bool
fare_fits f = (nat_lt f.origin 65536 && nat_lt f.goal 65536) && ((nat_lt f.class 26 && (nat_le 1 f.most && nat_le f.most 8)) && nat_le f.price 100000000)

-- a booking's class and seats in range
abbrev pub seats_fit : ℕ → ℕ → Bool
seats_fit c n = nat_lt c 26 && (nat_le 1 n && nat_le n 9)
