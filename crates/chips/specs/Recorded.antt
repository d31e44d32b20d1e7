-- What a chip in lent memory holds, and which answers were given on it. Definitions only: nothing is assumed or proved here.
use Rattle.std.specs.Prelude.{◌≡◌, ℕ, ◌-◌, ◌/◌, Bool, true, false, List, map, length, take, vec_items, nat_eq}
use Rattle.meaning.specs.Calls.{Answer}
use Rattle.meaning.specs.Chip.{Chip}
use Rattle.protocol.specs.Forms.{answer_of}
use Rattle.flash.specs.Pages.{chip_in}
use Rattle.flash.specs.declared.Power.{Power}
use Rattle.chips.specs.declared.MemoryChip.{MemoryChip}
use Rattle.chips.specs.declared.said.Said.{Said}

-- the list beside an answer
abbrev pub list_of : Said → List ℕ
list_of s = take s.listed s.sold

-- the answer that was given
abbrev pub said_means : Said → Answer
said_means s = answer_of s.answer (list_of s)

-- what the chip holds
abbrev pub chip_of : MemoryChip → Chip
chip_of c = chip_in c.pages.now

-- the answers that were given, the first one first
abbrev pub told_by : MemoryChip → List Answer
told_by c = map said_means (vec_items c.said)

-- how many whole blocks there are: sixteen pages of 513 bytes each
abbrev pub blocks_in : MemoryChip → ℕ
blocks_in c = length c.pages.now / 8208

-- ONE ACT counted down, in which power fails where it is the last that was left; it may be that the act isn't done although power holds. The numbers of the tear stay
pub record Counted (p q : Power) (held : Bool) : Type 0 where
  pub last : nat_eq p.acts 1 ≡ true → held ≡ false
  pub acts : q.acts ≡ p.acts - 1
  pub tear : q.tear ≡ p.tear
