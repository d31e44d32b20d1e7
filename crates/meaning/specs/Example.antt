-- The worked example: a house with ten ticks between legs and twenty for a hold, a list of calls, and what each is answered, worked out by hand from the rules. Definitions only.
use Rattle.std.specs.Prelude.{◌≡◌, List, [], ◌∷◌, ◌++◌}
use Rattle.meaning.specs.Calls.{Call, opens, files, books, pays, cancels, limits_to, ticks, free, price_of, booking, leg_is, Answer, refused, number, two, stands_so, sold, Limits, answers, new_house}
use Rattle.meaning.specs.Promise.{whole}

-- with what the house is opened
abbrev pub example : Limits
example = record { calls_can = whole; gap = 10; hold_for = 20; legs = 32; fares = 32; bookings = 128 }

-- two legs, from 1 to 2 and on to 3, and four fares
abbrev pub filling : List Call
filling =
    opens 1 2 100 200 (5 ∷ 3 ∷ 2 ∷ [])
    ∷ opens 2 3 230 300 (5 ∷ 4 ∷ [])
    ∷ files 1 2 1 1 50
    ∷ files 2 3 1 1 40
    ∷ files 1 3 1 2 80
    ∷ files 1 3 0 2 200
    ∷ []

abbrev pub filled : List Answer
filled = number 0 ∷ number 1 ∷ number 0 ∷ number 1 ∷ number 2 ∷ number 3 ∷ []

-- the fare over both legs is cheaper than two fares; class 0 has no fare for one leg; two seats are held
abbrev pub booking_two : List Call
booking_two = price_of 1 (0 ∷ 1 ∷ []) ∷ price_of 0 (0 ∷ []) ∷ books 1 2 (0 ∷ 1 ∷ []) ∷ []

abbrev pub booked_two : List Answer
booked_two = number 80 ∷ refused 6 1 ∷ two 0 1 ∷ []

-- what is free then on leg 0, whose limits are 5, 3 and 2: in class 0, in class 1, and in class 2, which class 1's limit has room for only once
abbrev pub asking : List Call
asking = free 0 0 ∷ free 0 1 ∷ free 0 2 ∷ []

abbrev pub asked : List Answer
asked = number 3 ∷ number 1 ∷ number 1 ∷ []

-- one waits and one is held; a payment serves nobody; a hold runs out; a cancelled booking makes room for the one that waits; a limit is lowered below what is taken; a journey begins
abbrev pub going_on : List Call
going_on =
    books 1 2 (0 ∷ [])
    ∷ books 0 3 (0 ∷ 1 ∷ [])
    ∷ pays 0
    ∷ ticks 20
    ∷ booking 2
    ∷ cancels 0
    ∷ booking 1
    ∷ limits_to 0 (1 ∷ 1 ∷ 1 ∷ [])
    ∷ leg_is 0
    ∷ ticks 80
    ∷ booking 1
    ∷ books 1 1 (0 ∷ [])
    ∷ []

abbrev pub went_on : List Answer
went_on =
    two 1 0
    ∷ two 2 1
    ∷ number 160
    ∷ number 20
    ∷ stands_so 3 0 0
    ∷ number 0
    ∷ stands_so 1 40 0
    ∷ number 0
    ∷ sold (2 ∷ 2 ∷ 0 ∷ [])
    ∷ number 100
    ∷ stands_so 3 0 0
    ∷ refused 5 2
    ∷ []

-- THE WORKED EXAMPLE: the house answers these calls so
unfoldable pub ExampleHolds : Type 0
ExampleHolds = answers example (new_house example) (filling ++ (booking_two ++ (asking ++ going_on))) ≡ filled ++ (booked_two ++ (asked ++ went_on))
