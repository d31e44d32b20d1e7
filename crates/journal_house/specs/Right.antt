-- What is proved of the house on a chip, each a statement that the contract of a function asks for. Definitions only: nothing is assumed or proved here.
use Rattle.std.specs.Prelude.{◌≡◌, ℕ, suc, ◌+◌, ◌*◌, ◌<◌, ◌≤◌, List, length, slice_index_or}
use Rattle.meaning.specs.House.{House}
use Rattle.meaning.specs.Calls.{Call, Limits, ran, new_house}
use Rattle.meaning.specs.Chip.{Chip}
use Rattle.meaning.specs.Promise.{GoodLimits, room_for}
use Rattle.journal.specs.Machine.{IsMachine}
use Rattle.journal.specs.Slots.{AllOf, longest, looks, CommitsTell, FewActs, InOrder}
use Rattle.journal.specs.Plan.{Planned}
use Rattle.journal.specs.Start.{Started}
use Rattle.journal_rows.specs.Layout.{house, slot_blocks, ring_blocks, most_pages, Op, Good, checkpoint, checkpoint_page, head, pages, rows, program, Reads}
use Rattle.journal_rows.specs.Bytes.{page_bytes}

-- THE MAIN PROMISE with its reading of chips named, for all limits, and whatever calls the house can take
abbrev pub RightByReading : Type 0
RightByReading = (l : Limits) → GoodLimits l → IsMachine (house l) (room_for l) (program page_bytes l) (Reads l page_bytes)

-- which pages a start of the program looks at
abbrev pub looked_at : Limits → Chip → List ℕ
looked_at l d = looks (house l) (slot_blocks l) (ring_blocks l) (rows l page_bytes) d

-- a start looks at few pages: at most those that a checkpoint of the house, as it is after the calls that the chip reads as, would take with its commit record, as many again (or 16, if these are more)
-- of the log, and two. And it looks at no others: on another chip with the same pages there it comes to the same
pub record StartsFast (l : Limits) : Type 0 where
  pub few : (d : Chip) (ts : List Call) → Reads l page_bytes d ts → length (looked_at l d) ≤ suc (pages (head (ran l (new_house l) ts))) + longest (pages (head (ran l (new_house l) ts))) + 2
  pub no_more : (d e : Chip) → AllOf (λ j. e j ≡ d j) (looked_at l d) → (program page_bytes l).start e ≡ (program page_bytes l).start d

abbrev pub FewPages : Type 0
FewPages = (l : Limits) → GoodLimits l → StartsFast l

-- a call can be done one act at a time, by a plan from which each act takes the first away
abbrev pub ByPlan : Type 0
ByPlan = (l : Limits) → Planned (house l) (slot_blocks l) (ring_blocks l) (rows l page_bytes)

-- and a start one page at a time: each page leaves what the start will come to as it is
abbrev pub ByPage : Type 0
ByPage = (l : Limits) → Started (house l) (slot_blocks l) (ring_blocks l) (rows l page_bytes)

-- a chip that the program left has nothing on the first page of a slot but a commit record of these limits, if anything
abbrev pub KnownChip : Type 0
KnownChip = (l : Limits) → GoodLimits l → CommitsTell (house l) (slot_blocks l) (ring_blocks l) (rows l page_bytes)

-- a checkpoint's page can be found by its number
abbrev pub ByNumber : Type 0
ByNumber = (h : House) (j : ℕ) (o : Op) → j < length (checkpoint h) → slice_index_or (checkpoint h) j o ≡ checkpoint_page h j

-- a call does few acts: one page written and at most one block erased where the log has room, which is until it is as long as the checkpoint; else the checkpoint's pages and the commit record
abbrev pub CallsFast : Type 0
CallsFast = (l : Limits) → GoodLimits l → FewActs (house l) (slot_blocks l) (ring_blocks l) (rows l page_bytes)

-- pages of a block are written in rising order between two erasures of it
abbrev pub Rises : Type 0
Rises = (l : Limits) → GoodLimits l → InOrder (house l) (slot_blocks l) (ring_blocks l) (rows l page_bytes)

-- THERE IS ROOM: the slots and the ring are all of the chip; the checkpoint of every house that can be reached, with the block of its commit record, fits a slot; the longest log after the largest
-- checkpoint, with a block that is written and one ahead, fits the ring
pub record Room (l : Limits) : Type 0 where
  pub all_of_it : slot_blocks l + slot_blocks l + ring_blocks l ≡ room_for l
  pub slots : (h : House) → Good l h → 16 + length (checkpoint h) ≤ 16 * slot_blocks l
  pub ring : longest (most_pages l) + 32 ≤ 16 * ring_blocks l

abbrev pub Roomy : Type 0
Roomy = (l : Limits) → GoodLimits l → Room l

-- all of it
pub record KeptHouse : Type 0 where
  pub right : RightByReading
  pub fast : FewPages
  pub by_plan : ByPlan
  pub by_page : ByPage
  pub known : KnownChip
  pub by_number : ByNumber
  pub quick : CallsFast
  pub rises : Rises
  pub room : Roomy
