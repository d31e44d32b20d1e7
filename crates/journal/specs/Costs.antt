-- What acts cost, and in which order pages are written. Definitions only: nothing is assumed or proved here.
use Rattle.std.specs.Prelude.{◌≡◌, ℕ, suc, ◌/◌, ◌<◌, List, [], ◌∷◌}
use Rattle.meaning.specs.Chip.{blank, Chip}
use Rattle.journal.specs.Acts.{Act, write, wipe, say, done}

module _ {A : Type 0} where
  -- pages of a block are written in rising order between two erasures of it: whenever one is written, all after it in its block are blank
  unfoldable pub Rising : Chip → List (Act A) → Type 0
  Rising d [] = Unit {0}
  Rising d (write k bs ∷ xs) = ((j : ℕ) → k < j → j / 16 ≡ k / 16 → d j ≡ blank) × Rising (done {A = A} d (write k bs)) xs
  Rising d (wipe b ∷ xs) = Rising (done {A = A} d (wipe b)) xs
  Rising d (say a ∷ xs) = Rising d xs

  -- how many pages acts write
  unfoldable pub writes : List (Act A) → ℕ
  writes [] = 0
  writes (write k bs ∷ xs) = suc (writes xs)
  writes (wipe b ∷ xs) = writes xs
  writes (say a ∷ xs) = writes xs

  -- how many blocks they erase
  unfoldable pub wipes : List (Act A) → ℕ
  wipes [] = 0
  wipes (write k bs ∷ xs) = wipes xs
  wipes (wipe b ∷ xs) = suc (wipes xs)
  wipes (say a ∷ xs) = wipes xs
