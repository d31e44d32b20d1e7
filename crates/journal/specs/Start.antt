-- A start one page at a time: the commit records of both slots, then the checkpoint's pages of the slot in use, then the pages of the log up to the first blank one. Definitions only: nothing is assumed or proved here.
use Rattle.std.specs.Prelude.{◌≡◌, ℕ, suc, ◌+◌, ◌-◌, ◌*◌, ◌<◌, Bool, true, false, nat_lt}
use Rattle.std.proofs.Math.Option.{Option, none, some}
use Rattle.meaning.specs.Lines.{pick}
use Rattle.meaning.specs.Chip.{Page, Chip, is_blank}
use Rattle.journal.specs.Machine.{Machine}
use Rattle.journal.specs.Slots.{later, Commit, Rows, replay, scan, acted_page, commit_of, base, kept_at, ring_page, ring, Journal, never_used, journal_start, journal_program}

-- how far a start has come: nothing is read; the first commit record is; of the slot with this commit record so many pages of the checkpoint are, and they came to this state; so many pages of its log are; all is
pub data Reading {C A : Type 0} (m : Machine C A) (r : Rows m) : Type 0 where
  unread : Reading m r
  one_commit : Option (Commit r.Head) → Reading m r
  reading : Bool → Commit r.Head → ℕ → m.State → Reading m r
  replaying : Bool → Commit r.Head → ℕ → m.State → Reading m r
  ready : Journal m → Reading m r

module _ {C A : Type 0} (m : Machine C A) (S R : ℕ) (r : Rows m) where
  abbrev pub found_so : Bool → Commit r.Head → ℕ → m.State → Journal m
  found_so x s n h = record { committed = true; slot = x; turn = s.turn; kept = r.pages s.head; begins = s.begins; used = n; state = h }

  -- which page is wanted next
  abbrev pub wants : Reading m r → ℕ
  wants unread = base S false
  wants (one_commit o) = base S true
  wants (reading x s n h) = kept_at S x + n
  wants (replaying x s n h) = ring_page S R (s.begins + n)
  wants (ready s) = 0

  -- a log ends when the whole ring is read, if not before; and it begins when all of the checkpoint is read
  abbrev pub replays_on : Bool → Commit r.Head → ℕ → m.State → Reading m r
  replays_on x s n h = pick (nat_lt n (16 * R)) (replaying x s n h) (ready (found_so x s n h))

  abbrev pub reads_on : Bool → Commit r.Head → ℕ → m.State → Reading m r
  reads_on x s n h = pick (nat_lt n (r.pages s.head)) (reading x s n h) (replays_on x s 0 h)

  abbrev pub chosen : Option (Commit r.Head) → Option (Commit r.Head) → Reading m r
  chosen none none = ready (never_used m S R r)
  chosen none (some t) = reads_on true t 0 (r.opened t.head)
  chosen (some s) none = reads_on false s 0 (r.opened s.head)
  chosen (some s) (some t) = pick (later t.turn s.turn) (reads_on true t 0 (r.opened t.head)) (reads_on false s 0 (r.opened s.head))

  -- how far it has come with the wanted page
  abbrev pub takes : Reading m r → Page → Reading m r
  takes unread p = one_commit (commit_of m r p)
  takes (one_commit o) p = chosen o (commit_of m r p)
  takes (reading x s n h) p = reads_on x s (suc n) (acted_page m r h p)
  takes (replaying x s n h) p = pick (is_blank p) (ready (found_so x s n h)) (replays_on x s (suc n) (acted_page m r h p))
  takes (ready s) p = ready s

  -- what a start that has come so far will come to on a chip
  abbrev pub replayed : Chip → Bool → Commit r.Head → ℕ → m.State → Journal m
  replayed d x s n h =
      let k : ℕ = scan (ring S R d) (s.begins + n) (16 * R - n) in
      found_so x s (n + k) (replay (acted_page m r) h (ring S R d) (s.begins + n) k)

  abbrev pub comes : Chip → Reading m r → Journal m
  comes d unread = (journal_program m S R r).start d
  comes d (one_commit o) = journal_start m S R r d o (commit_of m r (d (base S true)))
  comes d (reading x s n h) = replayed d x s 0 (replay (acted_page m r) h d (kept_at S x + n) (r.pages s.head - n))
  comes d (replaying x s n h) = replayed d x s n h
  comes d (ready s) = s

  -- a page is wanted only if there is one
  abbrev pub OpenStill : Reading m r → Type 0
  OpenStill unread = Unit {0}
  OpenStill (one_commit o) = Unit {0}
  OpenStill (reading x s n h) = n < r.pages s.head
  OpenStill (replaying x s n h) = n < 16 * R
  OpenStill (ready s) = Unit {0}

  -- each page leaves what the start will come to as it is, and what is read after it is there still
  pub record Started : Type 0 where
    pub one_page : (d : Chip) (v : Reading m r) → OpenStill v → comes d v ≡ comes d (takes v (d (wants v)))
    pub open_still : (v : Reading m r) (p : Page) → OpenStill v → OpenStill (takes v p)
