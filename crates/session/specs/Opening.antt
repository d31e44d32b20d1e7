-- When a house can be opened. Definitions only: nothing is assumed or proved here.
use Rattle.std.specs.Prelude.{ℕ, Bool, ◌&&◌, Some, None, Option, ◌≢◌, nat_le}
use Rattle.meaning.specs.Lines.{pick}
use Rattle.meaning.specs.House.{House}
use Rattle.meaning.specs.Calls as meaning
use Rattle.meaning.specs.Calls.{Call, answer, refused}
use Rattle.meaning.specs.Promise.{room_for}
use Rattle.limits.specs.Opening.{asks, in_range}
use Rattle.limits.specs.declared.Limits.{Limits}
use Rattle.limits.specs.declared.Sizes.{Sizes}
use Rattle.journal_steps.specs.Steps.{chip_limits}

-- each lent slice is as long as the limits ask for
abbrev pub memory_fits : Limits → Sizes → Bool
memory_fits l s = (nat_le (asks l).legs s.legs && nat_le (asks l).fares s.fares) && (nat_le (asks l).bookings s.bookings && nat_le (asks l).sums s.sums)

-- THE PLACE OF REFUSAL 3: 0 memory, 1 the chip, 2 what is out of range; none where a house can be opened
abbrev pub opening_place : Limits → Sizes → ℕ → Option ℕ
opening_place l s blocks = pick (memory_fits l s) (pick (nat_le (room_for (chip_limits l)) blocks) (pick (in_range l) None (Some 2)) (Some 1)) (Some 0)

-- no call of a house that is open is refused by 3
abbrev pub NeverThree : Type 0
NeverThree = (l : meaning.Limits) (h : House) (c : Call) (place : ℕ) → answer l h c ≢ refused 3 place
