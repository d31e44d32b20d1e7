-- A chip that counts as never used, and is not blank. Definitions only: nothing is assumed or proved here.
use Rattle.std.specs.Prelude.{◌≡◌, ℕ, ◌<◌, ◌/◌, ◌%◌, List, length, ◌==◌, slice_index}
use Rattle.meaning.specs.Lines.{pick}

-- each page is said to be written, and its bytes are as they were
pub record Marked (old new : List ℕ) : Type 0 where
  pub as_long : length new ≡ length old
  pub bytes : (j : ℕ) → j < length old → slice_index new j ≡ pick (j % 513 == 0) 1 (slice_index old j)

-- the first page of the second slot is spoilt, that of the first slot blank, and each other page is written, with sevens
pub record IsRubbish (n second : ℕ) (bs : List ℕ) : Type 0 where
  pub as_long : length bs ≡ n
  pub bytes : (j : ℕ) → j < n → slice_index bs j ≡ pick (j / 513 == second) (pick (j % 513 == 0) 2 0) (pick (j / 513 == 0) 0 (pick (j % 513 == 0) 1 7))
