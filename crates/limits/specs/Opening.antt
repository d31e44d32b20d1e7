-- With what limits a house can be opened, and how much memory they ask for. Definitions only: nothing is assumed or proved here.
use Rattle.std.specs.Prelude.{ℕ, ◌*◌, ◌≤◌, Bool, ◌&&◌, List, length, Some, None, Option, nat_le, nat_lt}
use Rattle.meaning.specs.Lines.{pick}
use Rattle.meaning.specs.Calls as calls
use Rattle.meaning.specs.Promise.{GoodLimits, whole}
use Rattle.limits.specs.declared.Limits.{Limits}
use Rattle.limits.specs.declared.Sizes.{Sizes}
use Rattle.limits.specs.declared.Misfit.{Misfit}
use Rattle.limits.specs.declared.Misfit.TheVariants as misfit

-- the limits of the meaning, at a stage that can do these calls
abbrev pub limits_mean : (ℕ → Bool) → Limits → calls.Limits
limits_mean can l = record { calls_can = can; gap = l.gap; hold_for = l.hold; legs = l.legs; fares = l.fares; bookings = l.bookings }

-- limits with which a house can be opened, as the meaning says; which calls can be done does not matter
abbrev pub InRange : Limits → Type 0
InRange l = GoodLimits (limits_mean whole l)

-- the same as a test
abbrev pub in_range : Limits → Bool
in_range l = (nat_le l.gap 65536 && (nat_le 1 l.hold && nat_le l.hold 65536)) && (nat_le l.legs 65536 && (nat_le l.fares 65536 && nat_le l.bookings 1000000))

-- HOW MUCH IS ASKED FOR: 128 words for each leg, 24 for each fare, 22 and a sum for each booking
abbrev pub asks : Limits → Sizes
asks l = record { legs = l.legs * 128; fares = l.fares * 24; bookings = l.bookings * 22; sums = l.bookings }

-- how long four slices are
abbrev pub lengths : List ℕ → List ℕ → List ℕ → List ℕ → Sizes
lengths legs fares bookings sums = record { legs = length legs; fares = length fares; bookings = length bookings; sums = length sums }

-- limits in range, and as much memory as they ask for
pub record Enough (l : Limits) (s : Sizes) : Type 0 where
  pub limits : InRange l
  pub legs : (asks l).legs ≤ s.legs
  pub fares : (asks l).fares ≤ s.fares
  pub bookings : (asks l).bookings ≤ s.bookings
  pub sums : (asks l).sums ≤ s.sums

-- the first thing that is wrong with limits, and memory of these sizes; none if a house can be opened
abbrev pub misfit_of : Limits → Sizes → Option Misfit
misfit_of l s =
    pick (in_range l) (pick (nat_lt s.legs (asks l).legs) (Some misfit.Legs)
    (pick (nat_lt s.fares (asks l).fares) (Some misfit.Fares)
    (pick (nat_lt s.bookings (asks l).bookings) (Some misfit.Bookings)
    (pick (nat_lt s.sums (asks l).sums) (Some misfit.Sums) None)))) (Some misfit.Range)
