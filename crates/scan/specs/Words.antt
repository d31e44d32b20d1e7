-- Words and numbers at the front of a line of bytes. Words are parted by one or more spaces; a number is decimal digits and below 2^32. Reading takes the front off and gives what stands behind it, or says how
-- many bytes are left from the first that doesn't fit on. Definitions only.
use Rattle.std.specs.Prelude.{ℕ, zero, suc, ◌+◌, ◌-◌, ◌*◌, min, Bool, not, ◌&&◌, List, [], ◌∷◌, ◌++◌, length, take, drop, fold, decimal, ◌==◌, nat_le, nat_lt}
use Rattle.std.specs.List.{prefix_len}
use Rattle.meaning.specs.Lines.{pick}
use Rattle.scan.specs.declared.Kind.{Kind}
use Rattle.scan.specs.declared.Kind.TheVariants as kind

-- what reading the front of a line gives: a value and the bytes behind it, or how many bytes are left from the first that doesn't fit on
pub data Read (A : Type 0) : Type 0 where
  got : A → List ℕ → Read A
  bad : ℕ → Read A

-- read on behind what was read, unless something did not fit
abbrev pub and_then : {A B : Type 0} → Read A → (A → List ℕ → Read B) → Read B
and_then (got a rest) f = f a rest
and_then (bad left) f = bad left

-- a space; a byte of a word, which is any other; a decimal digit; a byte of a line, which is any but the one that ends it
abbrev pub is_kind : Kind → ℕ → Bool
is_kind kind.Space b = b == 32
is_kind kind.Letter b = not (b == 32)
is_kind kind.Digit b = nat_le 48 b && nat_le b 57
is_kind kind.InLine b = not (b == 10)

-- how many bytes of a kind stand in front
unfoldable pub front : Kind → List ℕ → ℕ
front k bs = prefix_len (is_kind k) bs

-- the first line of a text, without the byte that ends it
abbrev pub line_of : List ℕ → List ℕ
line_of bs = take (front kind.InLine bs) bs

-- what stands behind that byte
abbrev pub past_line : List ℕ → List ℕ
past_line bs = drop (min (length bs) (front kind.InLine bs + 1)) bs

-- from the next word on
abbrev pub next_word : List ℕ → List ℕ
next_word bs = drop (front kind.Space bs) bs

-- the number that digits write, after the digits of n
unfoldable pub value_on : ℕ → List ℕ → ℕ
value_on n bs = fold (λ m b. 10 * m + (b - 48)) n bs

-- a number of which n digits stand in front. Where there is none, the first byte does not fit; a number that four bytes can't hold does not fit at its first digit, and what follows it but is no space, where it stands
abbrev pub number_of : ℕ → List ℕ → Read ℕ
number_of n bs =
    pick (n == 0) (bad (length bs))
    (pick (nat_le 4294967296 (value_on 0 (take n bs))) (bad (length bs))
    (pick (nat_lt 0 (front kind.Letter (drop n bs))) (bad (length (drop n bs)))
    (got (value_on 0 (take n bs)) (drop n bs))))

-- the next number of a line
abbrev pub number_in : List ℕ → Read ℕ
number_in bs = number_of (front kind.Digit (next_word bs)) (next_word bs)

-- the next word of a line, empty where there is none
abbrev pub word_in : List ℕ → List ℕ
word_in bs = take (front kind.Letter (next_word bs)) (next_word bs)

-- what stands behind it
abbrev pub past_word : List ℕ → List ℕ
past_word bs = drop (front kind.Letter (next_word bs)) (next_word bs)

-- numbers that were read, and then those that are read behind them
abbrev pub onto : List ℕ → Read (List ℕ) → Read (List ℕ)
onto us (got vs rest) = got (us ++ vs) rest
onto us (bad left) = bad left

-- the next n numbers
unfoldable pub numbers_in : ℕ → List ℕ → Read (List ℕ)
numbers_in zero bs = got [] bs
numbers_in (suc n) bs = and_then (number_in bs) (λ v rest. onto (v ∷ []) (numbers_in n rest))

-- all numbers up to the end of the line, at most n: one more does not fit where it stands
unfoldable pub list_in : ℕ → List ℕ → Read (List ℕ)
list_in zero bs = pick (length (next_word bs) == 0) (got [] []) (bad (length (next_word bs)))
list_in (suc n) bs = pick (length (next_word bs) == 0) (got [] []) (and_then (number_in bs) (λ v rest. onto (v ∷ []) (list_in n rest)))

-- numbers as they are printed, each behind a space
unfoldable pub spaced : List ℕ → List ℕ
spaced [] = []
spaced (n ∷ ns) = (32 ∷ decimal n) ++ spaced ns
