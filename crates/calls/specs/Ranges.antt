-- What a booking asks for, and one record more. Definitions only: nothing is assumed or proved here.
use Rattle.std.specs.Prelude.{◌≡◌, ℕ, ◌<◌, ◌≤◌, List, length, Some, None, Option}

-- the number of the next record, where there may be one more
abbrev pub NextNumber : ℕ → ℕ → Option ℕ → Type 0
NextNumber count most (Some n) = (n ≡ count) × (count < most)
NextNumber count most None = most ≤ count

-- what a booking asks for, in range
pub record Asks (c n : ℕ) (is : List ℕ) : Type 0 where
  pub class : c < 26
  pub least : 1 ≤ n
  pub seats : n ≤ 9
  pub some : 1 ≤ length is
  pub few : length is ≤ 8
