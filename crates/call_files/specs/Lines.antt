-- The lines of a file of calls. Definitions only: nothing is assumed or proved here.
use Rattle.std.specs.Prelude.{◌≡◌, ℕ, zero, suc, Bool, true, List, [], ◌∷◌, Ok, Err, Result, ◌==◌}
use Rattle.std.specs.Borrow.{Bor}
use Rattle.meaning.specs.Lines.{pick}
use Rattle.meaning.specs.Calls.{garbled}
use Rattle.scan.specs.Words.{line_of, past_line}
use Rattle.text.specs.CallLines.{line_call}
use Rattle.text.specs.declared.NoCall.{NoCall}
use Rattle.text.specs.declared.NoCall.TheVariants as no_call
use Rattle.wire.specs.Rows.{decoded}

-- a line that is passed over: an empty one, or one that begins with #
abbrev pub passed_over : List ℕ → Bool
passed_over [] = true
passed_over (b ∷ bs) = b == 35

-- THE FIRST LINE of a text of n lines at most that is not passed over, and what stands behind it; nothing where there is no such line
unfoldable pub first_in : ℕ → List ℕ → List ℕ × List ℕ
first_in zero bs = ([], [])
first_in (suc n) [] = ([], [])
first_in (suc n) (b ∷ bs) = pick (passed_over (line_of (b ∷ bs))) (first_in n (past_line (b ∷ bs))) (line_of (b ∷ bs), past_line (b ∷ bs))

-- the bytes of the call that a line is; or where it is none, or nothing where there was no memory to read it
abbrev pub RowRead : List ℕ → Result (Bor (List ℕ)) NoCall → Type 0
RowRead line (Ok row) = decoded row.now ≡ line_call line
RowRead line (Err (no_call.Unreadable place)) = line_call line ≡ garbled place
RowRead line (Err no_call.NoMemory) = Unit {0}
