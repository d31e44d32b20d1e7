-- Where lines that are no calls cease to be one, in the words of whoever writes them. Definitions only.
use Rattle.std.specs.Prelude.{◌≡◌, ℕ, suc, ◌^◌, ◌<◌, ◌≤◌, true, false, ◌≢◌, List, [], ◌∷◌, ◌++◌, length, decimal, slice_index_or}
use Rattle.meaning.specs.Calls.{garbled}
use Rattle.meaning.specs.Promise.{all_fields}
use Rattle.protocol.specs.Forms.{field_count, has_list}
use Rattle.scan.specs.Words.{front, word_in, spaced}
use Rattle.scan.specs.declared.Kind.TheVariants as kind
use Rattle.text.specs.CallLines.{verbs, place_among, line_call}

-- the beginning of a line: the word of a call, and some numbers
abbrev pub beginning : ℕ → List ℕ → List ℕ
beginning k ns = slice_index_or verbs k [] ++ spaced ns

-- each thing that is wrong has its place
pub record PlacesTold : Type 0 where
  -- a first word that is unknown: its first byte, behind the spaces in front
  pub unknown : (bs : List ℕ) → place_among (word_in bs) verbs ≡ 11 → line_call bs ≡ garbled (front kind.Space bs)
  -- a line that ends before its last number: its length
  pub too_short : (k : ℕ) (ns : List ℕ) → k ≤ 10 → length ns < field_count k → all_fields ns ≡ true → line_call (beginning k ns) ≡ garbled (length (beginning k ns))
  -- a number that four bytes can't hold: its first digit
  pub too_large : (k n : ℕ) (ns rest : List ℕ) → k ≤ 10 → length ns < field_count k → all_fields ns ≡ true → 4294967296 ≤ n → n < 2 ^ 64 → front kind.Digit rest ≡ 0 →
      line_call (beginning k ns ++ ((32 ∷ decimal n) ++ rest)) ≡ garbled (suc (length (beginning k ns)))
  -- something behind the last number of a call that has no list: its first byte
  pub too_long : (k b : ℕ) (ns rest : List ℕ) → k ≤ 10 → has_list k ≡ false → length ns ≡ field_count k → all_fields ns ≡ true → b ≢ 32 →
      line_call (beginning k ns ++ (32 ∷ (b ∷ rest))) ≡ garbled (suc (length (beginning k ns)))
