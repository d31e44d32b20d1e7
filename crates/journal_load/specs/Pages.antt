-- What the pages of a journal bring to memory: a commit record, the pages of a checkpoint, and the bytes of a call. Definitions only: nothing is assumed or proved here.
use Rattle.std.specs.Prelude.{◌≡◌, ℕ, ◌-◌, ◌*◌, ◌<◌, ◌≤◌, min, List, length, Some, None, Option, ◌≢◌}
use Rattle.std.proofs.Math.Option as plain
use Rattle.std.specs.Borrow.{Bor}
use Rattle.limits.specs.Opening.{limits_mean}
use Rattle.limits.specs.declared.Limits.{Limits}
use Rattle.meaning.specs.House.{House}
use Rattle.meaning.specs.Calls as calls
use Rattle.meaning.specs.Calls.{Call}
use Rattle.meaning.specs.Promise.{whole}
use Rattle.wire.specs.Rows.{decoded}
use Rattle.journal.specs.Slots.{Commit}
use Rattle.journal.specs.Codes.{turn_of}
use Rattle.journal_rows.specs.Layout.{Head, Op, taken_call, op_done, Fine, Good, IsReadBack, head, leg_pages, fare_pages, checkpoint_page, ring_blocks}
use Rattle.journal_rows.specs.Bytes.{row, unrow, page_bytes}
use Rattle.journal_load.specs.declared.CommitRecord.{CommitRecord}

-- what a commit record says of its checkpoint
abbrev pub head_of : CommitRecord → Head
head_of c = record { now = c.clock; legs = c.legs; fares = c.fares; bookings = c.bookings }

-- the commit record that was read, as the journal has it
abbrev pub commit_told : Option CommitRecord → plain.Option (Commit Head)
commit_told (Some c) = plain.Option.some (record { turn = turn_of c.turn; head = head_of c; begins = c.begins })
commit_told None = plain.Option.none

-- a commit record of a house that was opened with these limits says nothing beyond them
pub record Within (l : Limits) (c : CommitRecord) : Type 0 where
  pub clock : c.clock < 16777216
  pub legs : c.legs ≤ l.legs
  pub fares : c.fares ≤ l.fares
  pub bookings : c.bookings ≤ l.bookings
  pub begins : c.begins < 16 * ring_blocks (limits_mean whole l)

-- the same of one that may be none
abbrev pub IsWithin : Limits → Option CommitRecord → Type 0
IsWithin l (Some c) = Within l c
IsWithin l None = Unit {0}

-- the bytes of a call in a page of the log: what the page says is the call that they are; where there are none, no call that is taken has this page
abbrev pub CallPart : List ℕ → Option (Bor (List ℕ)) → Type 0
CallPart bs (Some part) = (unrow bs ≡ plain.Option.some (taken_call (decoded part.now))) × (length part.now ≤ 504)
CallPart bs None = (c : Call) → Fine (taken_call c) → bs ≢ row (taken_call c)

-- THE PAGE IS READ: what its bytes say is done to house h, and house g is what comes of it
pub record Loads (bs : List ℕ) (h g : House) : Type 0 where
  pub op : Op
  pub says : unrow bs ≡ plain.Option.some op
  pub done : (l : calls.Limits) → g ≡ op_done l h op

-- THE FIRST n PAGES of a checkpoint with this head are read: there are as many legs, fares and bookings as they have, 4 legs, 25 fares or 8 bookings to a page
pub record Loaded (s : Head) (n : ℕ) (h : House) : Type 0 where
  pub legs : length h.legs ≡ min (n * 4) s.legs
  pub fares : length h.fares ≡ min ((n - leg_pages s.legs) * 25) s.fares
  pub bookings : length h.bookings ≡ min ((n - leg_pages s.legs - fare_pages s.fares) * 8) s.bookings

-- no house that a journal can keep, and of which a commit record says this, has these bytes as page n of its checkpoint
abbrev pub NoPage : CommitRecord → ℕ → List ℕ → Type 0
NoPage c n bs = (l : calls.Limits) (h : House) → Good l h → head h ≡ head_of c → bs ≡ row (checkpoint_page h n) → IsReadBack page_bytes → ⊥
