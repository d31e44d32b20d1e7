-- A start that refuses what can't be a house's chip, and no chip that reads as a house: how far a start on a chip has come, which page can't come next, and that none of these comes on a chip that holds a house.
-- Definitions only: nothing is assumed or proved here.
use Rattle.std.specs.Prelude.{◌≡◌, ℕ, suc, ◌*◌, ◌<◌, ◌≤◌, Bool, true, false, ◌≢◌}
use Rattle.std.proofs.Math.Option.{Option, none, some}
use Rattle.meaning.specs.Lines.{pick}
use Rattle.meaning.specs.House.{House}
use Rattle.meaning.specs.Calls.{Call, Limits}
use Rattle.meaning.specs.Chip.{Page, blank, has, spoilt, Chip}
use Rattle.meaning.specs.Promise.{GoodLimits}
use Rattle.journal.specs.Machine.{Machine}
use Rattle.journal.specs.Slots.{later, Commit, Rows, replay, scan, acted_page, commit_of, base, kept_at, ring, Journal, journal_program, SlotsHold}
use Rattle.journal.specs.Start.{Reading, unread, one_commit, reading, replaying, ready, wants, takes, OpenStill}
use Rattle.journal_rows.specs.Layout.{house, slot_blocks, ring_blocks, taken_call, Fine, Good, Head, head, pages, checkpoint_page, rows, program}
use Rattle.journal_rows.specs.Bytes.{row, page_bytes}

-- which of two slots is in use, by their commit records, and its commit record: the one there is, or of two that of the later turn
abbrev pub chosen_slot : {K : Type 0} → Option (Commit K) → Option (Commit K) → Option (Bool × Commit K)
chosen_slot none none = none
chosen_slot none (some t) = some (true, t)
chosen_slot (some s) none = some (false, s)
chosen_slot (some s) (some t) = pick (later t.turn s.turn) (some (true, t)) (some (false, s))

module _ {C A : Type 0} (m : Machine C A) (S R : ℕ) (r : Rows m) where
  -- the slot of a chip that is in use
  abbrev pub slot_of : Chip → Option (Bool × Commit r.Head)
  slot_of d = chosen_slot (commit_of m r (d (base S false))) (commit_of m r (d (base S true)))

  -- what the first n pages of the checkpoint of a slot come to
  abbrev pub checkpoint_so : Chip → Bool → Commit r.Head → ℕ → m.State
  checkpoint_so d x s n = replay (acted_page m r) (r.opened s.head) d (kept_at S x) n

  -- and with all of it the first n pages of the log
  abbrev pub log_so : Chip → Bool → Commit r.Head → ℕ → m.State
  log_so d x s n = replay (acted_page m r) (checkpoint_so d x s (r.pages s.head)) (ring S R d) s.begins n

  -- n pages of the checkpoint of slot x, with commit record s, are read, and came to h
  pub record MetCheckpoint (d : Chip) (x : Bool) (s : Commit r.Head) (n : ℕ) (h : m.State) : Type 0 where
    pub slot : slot_of d ≡ some (x, s)
    pub more : n < r.pages s.head
    pub so_far : h ≡ checkpoint_so d x s n

  -- n pages of its log are read, none of them blank, and came to h
  pub record MetLog (d : Chip) (x : Bool) (s : Commit r.Head) (n : ℕ) (h : m.State) : Type 0 where
    pub slot : slot_of d ≡ some (x, s)
    pub there : n ≤ scan (ring S R d) s.begins (16 * R)
    pub so_far : h ≡ log_so d x s n

  -- HOW FAR a start on a chip has come, by the chip's pages
  abbrev pub Met : Chip → Reading m r → Type 0
  Met d unread = Unit {0}
  Met d (one_commit o) = o ≡ commit_of m r (d (base S false))
  Met d (reading x s n h) = MetCheckpoint d x s n h
  Met d (replaying x s n h) = MetLog d x s n h
  Met d (ready s) = s ≡ (journal_program m S R r).start d

-- a page that has other bytes than those of a commit record of a house that was opened so
pub record NoCommit (l : Limits) (p : Page) : Type 0 where
  pub not_blank : p ≡ blank → ⊥
  pub not_spoilt : p ≡ spoilt → ⊥
  pub no_commit : commit_of (house l) (rows l page_bytes) p ≡ none

-- a page that can't be page n of a checkpoint with this head, where the pages before it came to h: of no house that a journal can keep
abbrev pub NoCheckpoint : Limits → Head → ℕ → House → Page → Type 0
NoCheckpoint l s n h p =
    (was : House) → Good l was → head was ≡ s → p ≡ has (row (checkpoint_page was n)) → (suc n ≡ pages s → acted_page (house l) (rows l page_bytes) h p ≡ was) → ⊥

-- a page that has other bytes than those of a call that was taken
pub record IsNoCall (p : Page) : Type 0 where
  pub not_blank : p ≡ blank → ⊥
  pub not_spoilt : p ≡ spoilt → ⊥
  pub no_call : (c : Call) → Fine (taken_call c) → p ≢ has (row (taken_call c))

-- A PAGE THAT CAN'T COME NEXT on a house's chip
abbrev pub Unfit : (l : Limits) → Reading (house l) (rows l page_bytes) → Page → Type 0
Unfit l unread p = NoCommit l p
Unfit l (one_commit o) p = NoCommit l p
Unfit l (reading x s n h) p = NoCheckpoint l s.head n h p
Unfit l (replaying x s n h) p = IsNoCall p
Unfit l (ready s) p = ⊥

-- what a start has met on a chip, for the house
abbrev pub MetHouse : (l : Limits) → Chip → Reading (house l) (rows l page_bytes) → Type 0
MetHouse l = Met (house l) (slot_blocks l) (ring_blocks l) (rows l page_bytes)

-- NO CHIP THAT HOLDS A HOUSE IS REFUSED: a start that takes page after page always has met what the chip has, comes to the program's start, and meets no page that can't come next if the chip holds a house
pub record Accepted (l : Limits) : Type 0 where
  pub begins : (d : Chip) → MetHouse l d unread
  pub goes_on : (d : Chip) (v : Reading (house l) (rows l page_bytes)) → MetHouse l d v → OpenStill (house l) (slot_blocks l) (ring_blocks l) (rows l page_bytes) v →
      MetHouse l d (takes (house l) (slot_blocks l) (ring_blocks l) (rows l page_bytes) v (d (wants (house l) (slot_blocks l) (ring_blocks l) (rows l page_bytes) v)))
  pub ends : (d : Chip) (s : Journal (house l)) → MetHouse l d (ready s) → s ≡ (program page_bytes l).start d
  pub fit : (d : Chip) (h : House) → SlotsHold (house l) (slot_blocks l) (ring_blocks l) (rows l page_bytes) d h → (v : Reading (house l) (rows l page_bytes)) → MetHouse l d v →
      OpenStill (house l) (slot_blocks l) (ring_blocks l) (rows l page_bytes) v → Unfit l v (d (wants (house l) (slot_blocks l) (ring_blocks l) (rows l page_bytes) v)) → ⊥

abbrev pub AcceptsHouses : Type 0
AcceptsHouses = (l : Limits) → GoodLimits l → Accepted l
