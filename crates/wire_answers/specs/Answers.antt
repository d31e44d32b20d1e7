-- Which bytes an answer has. Definitions only.
use Rattle.std.specs.Prelude.{◌≡◌, ℕ, ◌<◌, ◌≤◌, List, [], ◌∷◌, length, Some, None, Option}
use Rattle.meaning.specs.Calls.{Answer, refused, number, two, stands_so, sold}
use Rattle.wire.specs.Bytes.{row_of, in_front}

-- THE BYTES OF AN ANSWER: its number in a byte, and its values in eight bytes each; what is sold comes behind its count in a byte
unfoldable pub answer_bytes : Answer → List ℕ
answer_bytes (refused n p) = 0 ∷ row_of 8 (n ∷ (p ∷ []))
answer_bytes (number n) = 1 ∷ row_of 8 (n ∷ [])
answer_bytes (two k s) = 2 ∷ row_of 8 (k ∷ (s ∷ []))
answer_bytes (stands_so s u p) = 3 ∷ row_of 8 (s ∷ (u ∷ (p ∷ [])))
answer_bytes (sold ns) = 4 ∷ (length ns ∷ row_of 8 ns)

-- how many numbers an answer's list has
unfoldable pub listed : Answer → ℕ
listed (refused n p) = 0
listed (number n) = 0
listed (two k s) = 0
listed (stands_so s u p) = 0
listed (sold ns) = length ns

-- an answer written at the front of a row: its length and the row then; none where more is listed than a leg has classes, 26, and then nothing is written
abbrev pub AnswerWritten : Answer → List ℕ → List ℕ → Option ℕ → Type 0
AnswerWritten a old new (Some n) = (listed a ≤ 26) × (n ≡ length (answer_bytes a)) × (new ≡ in_front (answer_bytes a) old)
AnswerWritten a old new None = (26 < listed a) × (new ≡ old)

-- every answer with a number for each class at most has so many bytes at most
abbrev pub AnswersWithin : ℕ → Type 0
AnswersWithin n = (a : Answer) → listed a ≤ 26 → length (answer_bytes a) ≤ n

-- the most bytes that an answer has
pub record MostBytes (n : ℕ) : Type 0 where
  pub enough : AnswersWithin n
  pub least : (m : ℕ) → AnswersWithin m → n ≤ m
