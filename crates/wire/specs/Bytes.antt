-- Numbers as bytes, low byte first, in fields of any width. Definitions only.
use Rattle.std.specs.Prelude.{ℕ, zero, suc, ◌+◌, ◌*◌, ◌/◌, ◌%◌, ◌<◌, List, [], ◌∷◌, ◌++◌, length, take, drop, slice_index}

-- a number in a field of so many bytes
unfoldable pub bytes_of : ℕ → ℕ → List ℕ
bytes_of zero n = []
bytes_of (suc width) n = n % 256 ∷ bytes_of width (n / 256)

-- the number that is in a field
abbrev pub number_of : List ℕ → ℕ
number_of [] = 0
number_of (b ∷ bs) = b + 256 * number_of bs

-- numbers one behind the other, each in a field of that width
unfoldable pub row_of : ℕ → List ℕ → List ℕ
row_of width [] = []
row_of width (n ∷ ns) = bytes_of width n ++ row_of width ns

-- the four bytes from a place on
abbrev pub four_at : List ℕ → ℕ → List ℕ
four_at bs at = slice_index bs at ∷ (slice_index bs (at + 1) ∷ (slice_index bs (at + 2) ∷ (slice_index bs (at + 3) ∷ [])))

-- the numbers of a row of fields of four bytes; what is left over behind the last whole one is none
unfoldable pub numbers_in : List ℕ → List ℕ
numbers_in [] = []
numbers_in (a ∷ []) = []
numbers_in (a ∷ (b ∷ [])) = []
numbers_in (a ∷ (b ∷ (c ∷ []))) = []
numbers_in (a ∷ (b ∷ (c ∷ (d ∷ bs)))) = number_of (a ∷ (b ∷ (c ∷ (d ∷ [])))) ∷ numbers_in bs

-- are these bytes
unfoldable pub Bytes : List ℕ → Type 0
Bytes [] = Unit {0}
Bytes (b ∷ bs) = (b < 256) × Bytes bs

-- a row with another written over it from a place on; what stands before and behind stays
unfoldable pub over : ℕ → List ℕ → List ℕ → List ℕ
over at new old = take at old ++ (new ++ drop (at + length new) old)

-- bytes written at the front of others; what stands behind them stays
abbrev pub in_front : List ℕ → List ℕ → List ℕ
in_front new old = new ++ drop (length new) old
