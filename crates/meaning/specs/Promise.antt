-- The main promise: a program on a chip is the house, however often power fails. Definitions only: what is a type here is a statement whose proof is owed by the program's own crate.
use Rattle.std.specs.Prelude.{◌≡◌, ℕ, suc, ◌+◌, ◌/◌, ◌<◌, ◌≤◌, Bool, true, ◌&&◌, ◌||◌, ◌⊎◌, List, [], ◌∷◌, ◌++◌, length, take, nat_le, nat_lt}
use Rattle.meaning.specs.Calls.{Call, opens, files, books, pays, cancels, limits_to, ticks, free, price_of, booking, leg_is, garbled, Limits, answers, ran, new_house}
use Rattle.meaning.specs.Chip.{blank, Chip, Act, LeftAfter, said, careful}

-- a program, by what the contract of its step function says: what it keeps, what it takes up from a chip at a start, the acts that a call makes it do, in order, and what it keeps then
pub record Program : Type 1 where
  pub State : Type 0
  pub start : Chip → State
  pub does : State → Call → List Act
  pub next : State → Call → State

-- the acts of a list of calls
unfoldable pub acts : (p : Program) → p.State → List Call → List Act
acts p s [] = []
acts p s (c ∷ cs) = p.does s c ++ acts p (p.next s c) cs

-- limits with which a house can be opened
abbrev pub GoodLimits : Limits → Type 0
GoodLimits l = (l.gap ≤ 65536) × (0 < l.hold_for) × (l.hold_for ≤ 65536) × (l.legs ≤ 65536) × (l.fares ≤ 65536) × (l.bookings ≤ 1000000)

-- a number that a field of four bytes can carry
abbrev pub field : ℕ → Bool
field n = nat_lt n 4294967296

-- numbers that fields can carry
unfoldable pub all_fields : List ℕ → Bool
all_fields [] = true
all_fields (x ∷ xs) = field x && all_fields xs

-- a list whose length a byte can count
abbrev pub short : List ℕ → Bool
short xs = nat_lt (length xs) 256 && all_fields xs

-- a call that can be written in its fields
unfoldable pub readable : Call → Bool
readable (opens a b c d ls) = (field a && field b) && ((field c && field d) && short ls)
readable (files a b c n p) = (field a && field b) && (field c && (field n && field p))
readable (books c n is) = (field c && field n) && short is
readable (pays k) = field k
readable (cancels k) = field k
readable (limits_to i ls) = field i && short ls
readable (ticks n) = field n
readable (free i c) = field i && field c
readable (price_of c is) = field c && short is
readable (booking k) = field k
readable (leg_is i) = field i
readable (garbled n) = field n

-- calls that can be written in their fields
unfoldable pub all_readable : List Call → Bool
all_readable [] = true
all_readable (c ∷ cs) = readable c && all_readable cs

-- the blocks of the chip that the limits ask for; of a larger chip only these are used
abbrev pub room_for : Limits → ℕ
room_for l = (l.legs + l.fares + l.bookings) / 8 + 16

-- THE MAIN PROMISE: a program on such a chip is the house. There is a reading of chips, as lists of calls that were taken; a chip that is all blank reads as none. Started on a chip that reads as
-- ts, the program handles it with care, and answers every list of calls as the house does after ts. And in whichever act power fails, the chip that is left reads as ts with the calls
-- that were answered by then, or these and the one under way
pub record IsTheHouse (l : Limits) (p : Program) : Type 1 where
  pub Reads : Chip → List Call → Type 0
  pub new : (d : Chip) → ((k : ℕ) → d k ≡ blank) → Reads d []
  pub care : (d : Chip) (ts cs : List Call) → Reads d ts → all_readable cs ≡ true → careful (room_for l) d (acts p (p.start d) cs) ≡ true
  pub right : (d : Chip) (ts cs : List Call) → Reads d ts → all_readable cs ≡ true → said (acts p (p.start d) cs) ≡ answers l (ran l (new_house l) ts) cs
  pub kept : (d e : Chip) (ts cs : List Call) (k : ℕ) → Reads d ts → all_readable cs ≡ true → LeftAfter d (acts p (p.start d) cs) k e →
      let heard : ℕ = length (said (take k (acts p (p.start d) cs))) in
      Reads e (ts ++ take heard cs) ⊎ Reads e (ts ++ take (suc heard) cs)

-- the promise for all limits, at the stage that can do these calls
unfoldable pub Right : (ℕ → Bool) → (Limits → Program) → Type 1
Right can p = (l : Limits) → GoodLimits l → l.calls_can ≡ can → IsTheHouse l (p l)

-- the first stage opens legs, files fares, books, and asks
abbrev pub thin : ℕ → Bool
thin k = nat_lt k 3 || nat_le 7 k

-- the whole house does all calls
abbrev pub whole : ℕ → Bool
whole k = true
