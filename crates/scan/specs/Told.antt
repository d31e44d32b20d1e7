-- What the readers of the code answer, in the words of Words.antt. Definitions only.
use Rattle.std.specs.Prelude.{◌≡◌, ℕ, ◌<◌, List, [], length, take, Ok, Err, vec_items, Option, MatchOption, Result, Vec}
use denote.Ref.{Bor}
use Rattle.scan.specs.Words.{Read, got, bad, line_of, past_line}
use Rattle.scan.specs.declared.Lines.{Lines}
use Rattle.scan.specs.declared.Front.{Front}
use Rattle.scan.specs.declared.Unfit.{Unfit}
use Rattle.scan.specs.declared.Unread.{Unread}
use Rattle.scan.specs.declared.Unread.TheVariants as unread
use Rattle.std.specs.declared.alloc.Global.{Global}

-- a number and what stands behind it, or how many bytes are left
abbrev pub number_told : Result (Front ℕ) Unfit → Read ℕ
number_told (Ok n) = got n.value n.rest.now
number_told (Err unfit) = bad unfit.left

-- so many numbers and what stands behind them, or how many bytes are left
abbrev pub numbers_told : ℕ → Result (Front (List ℕ)) Unfit → Read (List ℕ)
numbers_told k (Ok n) = got (take k n.value) n.rest.now
numbers_told k (Err unfit) = bad unfit.left

-- the numbers up to the end of the line, or how many bytes are left; want of memory says nothing
abbrev pub ListTold : Result (Vec ℕ Global) Unread → Read (List ℕ) → Type 0
ListTold (Ok v) r = r ≡ got (vec_items v) []
ListTold (Err (unread.Unfit unfit)) r = r ≡ bad unfit.left
ListTold (Err unread.NoMemory) r = Unit {0}

-- the next line of a text and the lines behind it, or nothing where there are no more bytes
abbrev pub TakesLine : Lines → Option (Bor (List ℕ)) → Lines → Type 0
TakesLine s r t = MatchOption r ((s.rest.now ≡ []) × (t.rest.now ≡ [])) (λ line. (0 < length s.rest.now) × (line.now ≡ line_of s.rest.now) × (t.rest.now ≡ past_line s.rest.now))
