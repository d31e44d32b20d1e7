-- The lines of bookings and questions that are put behind a list. Definitions only: nothing is assumed or proved here.
use Rattle.std.specs.Prelude.{ℕ, zero, suc, ◌+◌, ◌%◌, List, [], ◌∷◌, ◌++◌, ◌==◌, codes, decimal}
use Rattle.meaning.specs.Lines.{pick}

-- a booking of one seat: on the first leg, on the second, or on both in either class, going round
abbrev pub booked_in : ℕ → List ℕ
booked_in k =
    pick (k % 4 == 0) (codes "book 1 1 on 0") (pick (k % 4 == 1) (codes "book 1 1 on 1") (pick (k % 4 == 2) (codes "book 0 1 on 0 1") (codes "book 1 1 on 0 1"))) ++ (10 ∷ [])

-- so many bookings, from one number on
unfoldable pub booking_lines : ℕ → ℕ → List ℕ
booking_lines from zero = []
booking_lines from (suc n) = booking_lines from n ++ booked_in (from + n)

-- the question about a booking
abbrev pub asked_of : ℕ → List ℕ
asked_of k = codes "booking " ++ (decimal k ++ (10 ∷ []))

-- the questions about so many bookings
unfoldable pub question_lines : ℕ → List ℕ
question_lines zero = []
question_lines (suc n) = question_lines n ++ asked_of n
