-- Answers as lines: `refused 6 at 1`, `80`, `0 held`, `held until 40`, `2 2 0`. Definitions only.
use Rattle.std.specs.Prelude.{ℕ, List, [], ◌∷◌, ◌++◌, codes, decimal, ◌==◌}
use Rattle.meaning.specs.Lines.{pick}
use Rattle.meaning.specs.Calls.{Answer, refused, number, two, stands_so, sold}
use Rattle.scan.specs.Words.{spaced}

-- how a booking stands, in a word: 0 it waits, 1 it is held, 2 it is paid, 3 it is gone
abbrev pub standing : ℕ → List ℕ
standing s = pick (s == 0) (codes "waits") (pick (s == 1) (codes "held") (pick (s == 2) (codes "paid") (codes "gone")))

-- how a booking stands, with until when it is held and what was paid for it
abbrev pub standing_so : ℕ → ℕ → ℕ → List ℕ
standing_so s u p =
    pick (s == 0) (codes "waits")
    (pick (s == 1) (codes "held until " ++ decimal u)
    (pick (s == 2) (codes "paid " ++ decimal p)
    (pick (p == 0) (codes "gone") (codes "gone paid " ++ decimal p))))

-- numbers with a space between two
abbrev pub in_a_row : List ℕ → List ℕ
in_a_row [] = []
in_a_row (n ∷ ns) = decimal n ++ spaced ns

-- THE LINE of an answer
abbrev pub answer_line : Answer → List ℕ
answer_line (refused n p) = codes "refused " ++ (decimal n ++ (codes " at " ++ decimal p))
answer_line (number n) = decimal n
answer_line (two k s) = decimal k ++ (codes " " ++ standing s)
answer_line (stands_so s u p) = standing_so s u p
answer_line (sold ns) = in_a_row ns
