-- What is read of the list of a call. Definitions only: nothing is assumed or proved here.
use Rattle.std.specs.Prelude.{◌≡◌, ℕ, ◌+◌, ◌≤◌, Bool, true, false, ◌&&◌, List, length, take, Some, None, Option, ◌==◌, nat_le, nat_lt}
use Rattle.meaning.specs.Lines.{Leg, leg}
use Rattle.meaning.specs.Calls.{good_limits}
use Rattle.checks.specs.declared.lists.Listed.{Listed}
use Rattle.wire.specs.Bytes.{numbers_in}

-- the numbers of a list, those of its array up to their count
abbrev pub items : {n : ℕ} → Listed n → List ℕ
items v = take v.count v.numbers

-- a list that was read: the numbers of a part, 1 to n of them
pub record ListIs (n : ℕ) (part : List ℕ) (v : Listed n) : Type 0 where
  pub is : items v ≡ numbers_in part
  pub some : 1 ≤ length (numbers_in part)
  pub few : length (numbers_in part) ≤ n

-- a list, or none where a part has no numbers or more than n
abbrev pub ListRead : (n : ℕ) → List ℕ → Option (Listed n) → Type 0
ListRead n part (Some v) = ListIs n part v
ListRead n part None = (nat_le 1 (length (numbers_in part)) && nat_le (length (numbers_in part)) n) ≡ false

-- limits that were read, and that a leg may have
pub record LimitsAre (part : List ℕ) (v : Listed 26) : Type 0 where
  pub is : items v ≡ numbers_in part
  pub good : good_limits (numbers_in part) ≡ true

-- limits, or none where a leg may not have them
abbrev pub LimitsRead : List ℕ → Option (Listed 26) → Type 0
LimitsRead part (Some v) = LimitsAre part v
LimitsRead part None = good_limits (numbers_in part) ≡ false

-- is leg i there, with class c
abbrev pub leg_there : List Leg → ℕ → ℕ → Bool
leg_there ls c i = nat_lt i (length ls) && nat_lt c (length (leg ls i).limits)

-- does leg j begin where leg i ended, and leave no sooner than a given time after
abbrev pub legs_join : List Leg → ℕ → ℕ → ℕ → Bool
legs_join ls gap i j = (leg ls i).to == (leg ls j).from && nat_le ((leg ls i).arrives + gap) (leg ls j).leaves
