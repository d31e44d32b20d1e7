-- How far a start in code has come, as the journal says it; what it then holds true of memory; and what taking one page more brings. Definitions only: nothing is assumed or proved here.
use Rattle.std.specs.Prelude.{◌≡◌, ℕ, ◌*◌, ◌<◌, Bool, Some, None, Option, Ok, Err, Result}
use Rattle.std.proofs.Math.Option as plain
use Rattle.meaning.specs.House.{House}
use Rattle.meaning.specs.Calls as calls
use Rattle.meaning.specs.Calls.{new_house}
use Rattle.meaning.specs.Chip.{Page}
use Rattle.meaning.specs.Promise.{whole}
use Rattle.limits.specs.Opening.{limits_mean}
use Rattle.limits.specs.declared.Limits.{Limits}
use Rattle.store.specs.Whole as store
use Rattle.store.specs.declared.Memory.{Memory}
use Rattle.every_call.specs.Stage.{Idle, stage}
use Rattle.journal.specs.Codes.{turn_of, is_second}
use Rattle.journal.specs.Slots.{Commit, Journal, commit_of}
use Rattle.journal.specs.Start as start
use Rattle.journal_rows.specs.Layout.{Head, house, slot_blocks, ring_blocks, pages, rows}
use Rattle.journal_rows.specs.Bytes.{page_bytes}
use Rattle.journal_load.specs.declared.CommitRecord.{CommitRecord}
use Rattle.journal_load.specs.Pages.{commit_told, head_of, Within, IsWithin, Loaded}
use Rattle.journal_records.specs.declared.WrongPage.{WrongPage}
use Rattle.journal_steps.specs.Steps.{Fits, journal_of}
use Rattle.journal_start.specs.Starting.{NoCommit, Unfit}
use Rattle.journal_start.specs.declared.InUse.{InUse}
use Rattle.journal_start.specs.declared.Stage.{Stage}
use Rattle.journal_start.specs.declared.Stage.TheVariants.{Unread, OneCommit, Reading, Replaying, Ready}

-- a commit record as the journal has it
abbrev pub commit_is : CommitRecord → Commit Head
commit_is c = record { turn = turn_of c.turn; head = head_of c; begins = c.begins }

-- HOW FAR a start has come, by its stage and the house that memory is
abbrev pub reading_of : (l : calls.Limits) → Stage → House → start.Reading (house l) (rows l page_bytes)
reading_of l Unread h = start.Reading.unread
reading_of l (OneCommit o) h = start.Reading.one_commit (commit_told o)
reading_of l (Reading u n) h = start.Reading.reading (is_second u.slot) (commit_is u.commit) n h
reading_of l (Replaying u n) h = start.Reading.replaying (is_second u.slot) (commit_is u.commit) n h
reading_of l (Ready j) h = start.Reading.ready (journal_of l j h)

-- how many pages the ring has
abbrev pub ring_pages : Limits → ℕ
ring_pages l = 16 * ring_blocks (limits_mean whole l)

-- a page of a checkpoint that is there
pub record InCheckpoint (l : Limits) (c : CommitRecord) (n : ℕ) : Type 0 where
  pub within : Within l c
  pub more : n < pages (head_of c)

-- a page of the ring that a log may reach
pub record InLog (l : Limits) (c : CommitRecord) (n : ℕ) : Type 0 where
  pub within : Within l c
  pub more : n < ring_pages l

-- the numbers of a stage are in range, for a house of these limits
abbrev pub Ranges : Limits → Stage → Type 0
Ranges l Unread = Unit {0}
Ranges l (OneCommit o) = IsWithin l o
Ranges l (Reading u n) = InCheckpoint l u.commit n
Ranges l (Replaying u n) = InLog l u.commit n
Ranges l (Ready j) = Fits l j

-- which page is asked for next; none when all is read
abbrev pub wanted : (l : calls.Limits) → start.Reading (house l) (rows l page_bytes) → Option ℕ
wanted l start.Reading.unread = Some (start.wants (house l) (slot_blocks l) (ring_blocks l) (rows l page_bytes) start.Reading.unread)
wanted l (start.Reading.one_commit o) = Some (start.wants (house l) (slot_blocks l) (ring_blocks l) (rows l page_bytes) (start.Reading.one_commit o))
wanted l (start.Reading.reading x s n h) = Some (start.wants (house l) (slot_blocks l) (ring_blocks l) (rows l page_bytes) (start.Reading.reading x s n h))
wanted l (start.Reading.replaying x s n h) = Some (start.wants (house l) (slot_blocks l) (ring_blocks l) (rows l page_bytes) (start.Reading.replaying x s n h))
wanted l (start.Reading.ready s) = None

-- the commit record of a slot's first page, if it has one; or other bytes, and the chip is refused
abbrev pub CommitGot : Limits → Page → Result (Option CommitRecord) WrongPage → Type 0
CommitGot l p (Ok o) = ((can : ℕ → Bool) → commit_told o ≡ commit_of (house (limits_mean can l)) (rows (limits_mean can l) page_bytes) p) × IsWithin l o
CommitGot l p (Err e) = (can : ℕ → Bool) → NoCommit (limits_mean can l) p

-- the slot in use, as the journal has it
abbrev pub slot_told : Option InUse → plain.Option (Bool × Commit Head)
slot_told (Some u) = plain.Option.some (is_second u.slot, commit_is u.commit)
slot_told None = plain.Option.none

-- and it is within limits that both commit records are within
abbrev pub SlotWithin : Limits → Option InUse → Type 0
SlotWithin l (Some u) = Within l u.commit
SlotWithin l None = Unit {0}

abbrev pub SlotFrom : Option CommitRecord → Option CommitRecord → Option InUse → Type 0
SlotFrom first second r = (l : Limits) → IsWithin l first → IsWithin l second → SlotWithin l r

-- what a stage holds true of memory: before a checkpoint is read, the house is a new one; then it has as many records as the pages that were read; and when all of these are read, nobody waits for what is free
abbrev pub Holds : Memory → Stage → Type 0
Holds m Unread = store.house m ≡ new_house (stage m)
Holds m (OneCommit o) = store.house m ≡ new_house (stage m)
Holds m (Reading u n) = Loaded (head_of u.commit) n (store.house m)
Holds m (Replaying u n) = Idle m
Holds m (Ready j) = Idle m

-- a stage past the checkpoint holds true of memory no more than that
abbrev pub Past : Stage → Type 0
Past s = (m : Memory) → Idle m → Holds m s

-- A STAGE FITS MEMORY
pub record StageFits (m : Memory) (s : Stage) : Type 0 where
  pub ranges : Ranges m.limits s
  pub holds : Holds m s

-- how far a start has come with the page that it asked for
abbrev pub taken : (l : calls.Limits) → start.Reading (house l) (rows l page_bytes) → Page → start.Reading (house l) (rows l page_bytes)
taken l = start.takes (house l) (slot_blocks l) (ring_blocks l) (rows l page_bytes)

-- when so many pages of a checkpoint are read, and of a log
abbrev pub checkpoint_on : (l : calls.Limits) → InUse → ℕ → House → start.Reading (house l) (rows l page_bytes)
checkpoint_on l u n h = start.reads_on (house l) (slot_blocks l) (ring_blocks l) (rows l page_bytes) (is_second u.slot) (commit_is u.commit) n h

abbrev pub log_on : (l : calls.Limits) → InUse → ℕ → House → start.Reading (house l) (rows l page_bytes)
log_on l u n h = start.replays_on (house l) (slot_blocks l) (ring_blocks l) (rows l page_bytes) (is_second u.slot) (commit_is u.commit) n h

-- when a log ends after so many pages
abbrev pub found_log : (l : calls.Limits) → InUse → ℕ → House → Journal (house l)
found_log l u n h = start.found_so (house l) (slot_blocks l) (ring_blocks l) (rows l page_bytes) (is_second u.slot) (commit_is u.commit) n h

-- a stage and memory that are at this reading, for memory that was m
pub record At (m n : Memory) (t : Stage) (v : start.Reading (house (stage m)) (rows (stage m) page_bytes)) : Type 0 where
  pub reading : reading_of (stage m) t (store.house n) ≡ v
  pub fits : StageFits n t

-- THE PAGE WAS TAKEN, and stage t is what comes after stage s; or it can't come next on a house's chip
abbrev pub Next : Memory → Memory → Stage → Page → Result Stage WrongPage → Type 0
Next m n s p (Ok t) = At m n t (taken (stage m) (reading_of (stage m) s (store.house m)) p)
Next m n s p (Err e) = Unfit (stage m) (reading_of (stage m) s (store.house m)) p

-- the same where the stage stands in the place of the one before
abbrev pub Taken : Memory → Memory → Stage → Stage → Page → Result (Unit {0}) WrongPage → Type 0
Taken m n s t p (Ok x) = At m n t (taken (stage m) (reading_of (stage m) s (store.house m)) p)
Taken m n s t p (Err e) = Unfit (stage m) (reading_of (stage m) s (store.house m)) p
