-- The line that opens a house: `house GAP HOLD LEGS FARES BOOKINGS`. Definitions only.
use Rattle.std.specs.Prelude.{◌≡◌, ℕ, ◌-◌, true, List, [], ◌∷◌, ◌++◌, length, Ok, Err, codes, Result}
use Rattle.meaning.specs.Lines.{pick}
use Rattle.meaning.specs.Promise.{all_fields}
use Rattle.scan.specs.Words.{Read, got, bad, and_then, next_word, word_in, past_word, numbers_in, list_in, spaced}
use Rattle.std.specs.Str.{bytes_eq}
use Rattle.limits.specs.declared.Limits.{Limits}
use Rattle.scan.specs.declared.Unfit.{Unfit}

-- the five numbers of such a line, which are the limits of the house
abbrev pub numbers_of : Limits → List ℕ
numbers_of h = h.gap ∷ h.hold ∷ h.legs ∷ h.fares ∷ h.bookings ∷ []

-- how it is printed
abbrev pub house_line : List ℕ → List ℕ
house_line ns = codes "house" ++ spaced ns

-- what it is read as: the word, five numbers, and nothing more
unfoldable pub house_in : List ℕ → Read (List ℕ)
house_in bs =
    pick (bytes_eq (word_in bs) (codes "house"))
    (and_then (numbers_in 5 (past_word bs)) (λ ns rest. and_then (list_in 0 rest) (λ none end. got ns end)))
    (bad (length (next_word bs)))

-- the limits that a line was read as, or how many bytes are left
abbrev pub HouseRead : Result Limits Unfit → Read (List ℕ) → Type 0
HouseRead (Ok h) r = r ≡ got (numbers_of h) []
HouseRead (Err unfit) r = r ≡ bad unfit.left

-- the limits, or the place in a line of n bytes from which on it is no such line
abbrev pub HouseTold : Result Limits ℕ → ℕ → Read (List ℕ) → Type 0
HouseTold (Ok h) n r = r ≡ got (numbers_of h) []
HouseTold (Err place) n r = (left : ℕ) × (r ≡ bad left) × (place ≡ n - left)

-- reading the line that is printed for five numbers gives them back
abbrev pub OpensBack : Type 0
OpensBack = (ns : List ℕ) → length ns ≡ 5 → all_fields ns ≡ true → house_in (house_line ns) ≡ got ns []
