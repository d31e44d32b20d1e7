-- Programs on calls of any kind (C) that answer with any kind of answers (A), and the main promise over them. Definitions only: what is a type here is a statement whose proof is owed by the program's own crate.
use Rattle.std.specs.Prelude.{◌≡◌, ℕ, suc, Bool, true, ◌⊎◌, List, [], ◌∷◌, ◌++◌, length, take}
use Rattle.meaning.specs.Calls.{Call, Answer, Limits, answers, ran, new_house}
use Rattle.meaning.specs.Chip.{blank, Chip}
use Rattle.meaning.specs.Promise.{GoodLimits, all_readable, room_for}
use Rattle.journal.specs.Acts.{Act, LeftAfter, said, careful}

-- a program on calls (C) that it answers (A), by what the contract of its step function says: what it keeps, what it takes up from a chip at a start, the acts that a call makes it do, in order, and what it keeps then
pub record Program (C A : Type 0) : Type 1 where
  pub State : Type 0
  pub start : Chip → State
  pub does : State → C → List (Act A)
  pub next : State → C → State

-- the acts of a list of calls
unfoldable pub acts : {C A : Type 0} (p : Program C A) → p.State → List C → List (Act A)
acts p s [] = []
acts p s (c ∷ cs) = p.does s c ++ acts p (p.next s c) cs

-- THE MAIN PROMISE: a program on such a chip is the house. There is a reading of chips, as lists of calls that were taken; a chip that is all blank reads as none. Started on a chip that reads as
-- ts, the program handles it with care, and answers every list of calls as the house does after ts. And in whichever act power fails, the chip that is left reads as ts with the calls
-- that were answered by then, or these and the one under way
pub record IsTheHouse (l : Limits) (p : Program Call Answer) : Type 1 where
  pub Reads : Chip → List Call → Type 0
  pub new : (d : Chip) → ((k : ℕ) → d k ≡ blank) → Reads d []
  pub care : (d : Chip) (ts cs : List Call) → Reads d ts → all_readable cs ≡ true → careful (room_for l) d (acts p (p.start d) cs) ≡ true
  pub right : (d : Chip) (ts cs : List Call) → Reads d ts → all_readable cs ≡ true → said (acts p (p.start d) cs) ≡ answers l (ran l (new_house l) ts) cs
  pub kept : (d e : Chip) (ts cs : List Call) (k : ℕ) → Reads d ts → all_readable cs ≡ true → LeftAfter d (acts p (p.start d) cs) k e →
      let heard : ℕ = length (said (take k (acts p (p.start d) cs))) in
      Reads e (ts ++ take heard cs) ⊎ Reads e (ts ++ take (suc heard) cs)

-- the promise for all limits, at the stage that can do these calls
unfoldable pub Right : (ℕ → Bool) → (Limits → Program Call Answer) → Type 1
Right can p = (l : Limits) → GoodLimits l → l.calls_can ≡ can → IsTheHouse l (p l)
