-- The numbers of refusals, as answers have them. Definitions only.
use Rattle.std.specs.Prelude.{ℕ}
use Rattle.protocol.specs.declared.refusals.Refusal.{Refusal}
use Rattle.protocol.specs.declared.refusals.Refusal.TheVariants.{NoCall, OutOfRange, CannotOpen, NoLeg, NoJourney, NoFare, NoBooking, StandsOtherwise, LimitReached}
use Rattle.protocol.specs.declared.refusals.Unopened.{Unopened}
use Rattle.protocol.specs.declared.refusals.Unopened.TheVariants.{Memory, Chip, Range}

-- the number of a refusal
abbrev pub refusal_number : Refusal → ℕ
refusal_number NoCall = 1
refusal_number OutOfRange = 2
refusal_number CannotOpen = 3
refusal_number NoLeg = 4
refusal_number NoJourney = 5
refusal_number NoFare = 6
refusal_number NoBooking = 7
refusal_number StandsOtherwise = 8
refusal_number LimitReached = 9

-- the place of the refusal where a house can't be opened
abbrev pub unopened_place : Unopened → ℕ
unopened_place Memory = 0
unopened_place Chip = 1
unopened_place Range = 2
