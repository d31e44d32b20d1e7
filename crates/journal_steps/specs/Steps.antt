-- What the journal of the code means, and what each of its steps does. Definitions only: nothing is assumed or proved here.
use Rattle.std.specs.Prelude.{◌≡◌, ℕ, ◌+◌, ◌*◌, ◌<◌, ◌≤◌, Bool, ◌&&◌, List, [], ◌∷◌, ◌++◌, nat_lt}
use Rattle.meaning.specs.Lines.{pick}
use Rattle.meaning.specs.House as houses
use Rattle.meaning.specs.Calls as meaning
use Rattle.meaning.specs.Calls.{Call, Answer}
use Rattle.journal.specs.Acts as chip
use Rattle.journal.specs.Acts.{write, wipe, say}
use Rattle.meaning.specs.Promise.{room_for, whole}
use Rattle.limits.specs.Opening.{limits_mean}
use Rattle.limits.specs.declared.Limits.{Limits}
use Rattle.journal.specs.Codes.{turn_of, is_second}
use Rattle.journal.specs.Slots as slots
use Rattle.journal.specs.Slots.{around, longest, has_room, never_used, with_page, with_checkpoint}
use Rattle.journal.specs.Plan as plans
use Rattle.journal.specs.Plan.{plan, resting, answering, logging, logging_now, opening, opening_more, erasing, filling, filling_now}
use Rattle.journal_rows.specs.Layout.{house, rows, slot_blocks, ring_blocks, most_pages, head, pages, checkpoint_page, taken_call}
use Rattle.journal_rows.specs.Bytes.{page_bytes, row}
use Rattle.journal_steps.specs.declared.Journal.{Journal}
use Rattle.journal_steps.specs.declared.Work.{Work}
use Rattle.journal_steps.specs.declared.Work.TheVariants as work
use Rattle.journal_steps.specs.declared.Act.{Act}
use Rattle.journal_steps.specs.declared.Act.TheVariants as act

-- limits as the meaning has them; which calls can be done does not matter for the chip
abbrev pub chip_limits : Limits → meaning.Limits
chip_limits l = limits_mean whole l

-- the numbers of a journal are in range: the log begins within the ring and is no longer than it, and the checkpoint has no more pages than the largest
pub record Fits (l : Limits) (j : Journal) : Type 0 where
  pub begins : j.begins < 16 * ring_blocks (chip_limits l)
  pub used : j.used ≤ 16 * ring_blocks (chip_limits l)
  pub pages : j.pages ≤ most_pages (chip_limits l)

-- the place of the ring at which the log ends
abbrev pub log_place : Limits → Journal → ℕ
log_place l j = around (16 * ring_blocks (chip_limits l)) (j.begins + j.used)

-- may the log have one page more
abbrev pub log_has_room : Journal → Bool
log_has_room j = j.committed && nat_lt j.used (longest j.pages)

-- THE JOURNAL that the code's is, with this house
abbrev pub journal_of : (l : meaning.Limits) → Journal → houses.House → slots.Journal (house l)
journal_of l j h = record { committed = j.committed; slot = is_second j.slot; turn = turn_of j.turn; kept = j.pages; begins = j.begins; used = j.used; state = h }

-- THE WORK that the code's is, for this call and answer
abbrev pub work_of : Work → Call → Answer → plans.Work Call Answer
work_of work.Resting c a = resting
work_of work.Answering c a = answering a
work_of (work.Logging k) c a = logging k c a
work_of (work.LoggingNow k) c a = logging_now k c a
work_of work.Opening c a = opening a
work_of work.OpeningMore c a = opening_more a
work_of work.Erasing c a = erasing a
work_of (work.Filling j) c a = filling j a
work_of (work.FillingNow j) c a = filling_now j a

-- work whose numbers are in range, where the checkpoint of the house has n pages
abbrev pub WorkFits : Limits → ℕ → Work → Type 0
WorkFits l n work.Resting = Unit {0}
WorkFits l n work.Answering = Unit {0}
WorkFits l n (work.Logging k) = k < 16 * ring_blocks (chip_limits l)
WorkFits l n (work.LoggingNow k) = k < 16 * ring_blocks (chip_limits l)
WorkFits l n work.Opening = Unit {0}
WorkFits l n work.OpeningMore = Unit {0}
WorkFits l n work.Erasing = Unit {0}
WorkFits l n (work.Filling j) = j ≤ n
WorkFits l n (work.FillingNow j) = j < n

-- an act for some work, on the chip that the limits ask for, and of a checkpoint of n pages; there is none only where nothing is to be done
abbrev pub ActFits : Limits → ℕ → Work → Act → Type 0
ActFits l n w act.Rest = w ≡ work.Resting
ActFits l n w act.Say = Unit {0}
ActFits l n w (act.Erase b) = b < room_for (chip_limits l)
ActFits l n w (act.WriteCall k) = k < 16 * room_for (chip_limits l)
ActFits l n w (act.WriteCheckpoint k i) = (k < 16 * room_for (chip_limits l)) × (i < n)
ActFits l n w (act.WriteCommit k) = k < 16 * room_for (chip_limits l)

-- the acts that are owed
abbrev pub owed : (l : meaning.Limits) → Journal → houses.House → Work → Call → Answer → List (chip.Act Answer)
owed l j h w c a = plan (house l) (slot_blocks l) (ring_blocks l) (rows l page_bytes) (journal_of l j h) (work_of w c a)

-- what an act of the code does: at rest nothing
abbrev pub acts_of : meaning.Limits → Journal → houses.House → Call → Answer → Act → List (chip.Act Answer)
acts_of l j h c a act.Rest = []
acts_of l j h c a act.Say = say a ∷ []
acts_of l j h c a (act.Erase b) = wipe b ∷ []
acts_of l j h c a (act.WriteCall k) = write k (row (taken_call c)) ∷ []
acts_of l j h c a (act.WriteCheckpoint k n) = write k (row (checkpoint_page h n)) ∷ []
acts_of l j h c a (act.WriteCommit k) = write k (page_bytes.commit l (turn_of j.turn) (head h) j.begins) ∷ []

-- ONE ACT: it is the first of those that are owed, and the work that is left owes the others
abbrev pub Gives : Limits → Journal → ℕ → Work → Act → Work → Type 0
Gives l j n w x v =
    (can : ℕ → Bool) (h : houses.House) (c : Call) (a : Answer) → pages (head h) ≡ n →
    owed (limits_mean can l) j h w c a ≡ acts_of (limits_mean can l) j h c a x ++ owed (limits_mean can l) j h v c a

-- the journal of a chip that was never used
pub record Unused (j : Journal) : Type 0 where
  pub fits : (l : Limits) → Fits l j
  pub is : (l : meaning.Limits) → journal_of l j (meaning.new_house l) ≡ never_used (house l) (slot_blocks l) (ring_blocks l) (rows l page_bytes)

-- what a call that changed the house makes of the journal, and the work it begins with: one page more in the log where there is room, else a checkpoint of n pages
pub record Advanced (l : Limits) (n : ℕ) (j k : Journal) (w : Work) : Type 0 where
  pub journal : (can : ℕ → Bool) (g h : houses.House) → pages (head h) ≡ n →
      let m : meaning.Limits = limits_mean can l in
      let s : slots.Journal (house m) = journal_of m j g in
      journal_of m k h ≡ pick (has_room (house m) (slot_blocks m) (ring_blocks m) (rows m page_bytes) s) (with_page (house m) (slot_blocks m) (ring_blocks m) (rows m page_bytes) s h) (with_checkpoint (house m) (slot_blocks m) (ring_blocks m) (rows m page_bytes) s h)
  pub work : (can : ℕ → Bool) (g : houses.House) (c : Call) (a : Answer) →
      let m : meaning.Limits = limits_mean can l in
      let s : slots.Journal (house m) = journal_of m j g in
      work_of w c a ≡ pick (has_room (house m) (slot_blocks m) (ring_blocks m) (rows m page_bytes) s) (logging (slots.place (house m) (slot_blocks m) (ring_blocks m) (rows m page_bytes) s) c a) (pick j.committed (erasing a) (opening a))
