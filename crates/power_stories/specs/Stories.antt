-- What is left of a text. Definitions only: nothing is assumed or proved here.
use Rattle.std.specs.Prelude.{ℕ, zero, suc, List}
use Rattle.scan.specs.Words.{past_line}

-- what stands behind the first so many lines
unfoldable pub behind : ℕ → List ℕ → List ℕ
behind zero bs = bs
behind (suc n) bs = past_line (behind n bs)
