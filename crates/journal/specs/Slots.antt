-- A journal in two slots and a ring. A slot's first block holds its commit record, in page 0, which is written last and commits all before it; its other blocks hold the pages of a checkpoint. The ring holds
-- the log, one page for each call that changed something; it goes round, begins where the commit record of the slot in use says, and ends at the first blank page; spoilt pages in it are passed over. When the
-- log has grown as long as the checkpoint with its commit record, the next change writes a checkpoint into the other slot, and a new log begins where the old one ends. In the ring one block is erased ahead, so
-- that whoever reads a log never meets what an older round left. Definitions only: nothing is assumed or proved here.
use Rattle.std.specs.Prelude.{◌≡◌, ℕ, zero, suc, ◌+◌, ◌-◌, ◌*◌, ◌/◌, ◌%◌, ◌<◌, ◌≤◌, Bool, true, false, not, ◌&&◌, ◌⊎◌, List, [], ◌∷◌, ◌++◌, map, length, ◌==◌, nat_lt}
use Rattle.std.proofs.Math.Option.{Option, none, some}
use Rattle.meaning.specs.Lines.{pick}
use Rattle.meaning.specs.Chip.{Page, blank, has, spoilt, Chip, is_blank, all_bytes}
use Rattle.journal.specs.Acts.{Act, write, wipe, say}
use Rattle.journal.specs.Programs.{Program, acts}
use Rattle.journal.specs.Costs.{writes, wipes, Rising}
use Rattle.journal.specs.Machine.{Machine, all_readable}

-- turns go round, three of them, so that of two slots the one committed later can be told
pub data Turn : Type 0 where
  one two three : Turn

abbrev pub up : Turn → Turn
up one = two
up two = three
up three = one

-- is the first turn the one right after the second
abbrev pub later : Turn → Turn → Bool
later one one = false
later one two = false
later one three = true
later two one = true
later two two = false
later two three = false
later three one = false
later three two = true
later three three = false

-- what can be written into a page
abbrev pub whole_row : List ℕ → Bool
whole_row bs = length bs == 512 && all_bytes bs

-- what a page of the checkpoint or the log says is an Op: operations one after the other
unfoldable pub did : {H Op : Type 0} → (H → Op → H) → H → List Op → H
did f h [] = h
did f h (o ∷ os) = did f (f h o) os

unfoldable pub AllOf : {X : Type 0} → (X → Type 0) → List X → Type 0
AllOf P [] = Unit {0}
AllOf P (x ∷ xs) = P x × AllOf P xs

-- what a commit record says: its turn, what the state needs beside, and at which page of the ring the log begins
pub record Commit (Head : Type 0) : Type 0 where
  pub turn : Turn
  pub head : Head
  pub begins : ℕ

-- how a machine's state is written into pages. `call c` is the Op of a taken call; a checkpoint is a list of others, done to the state that the head says. `pages` is how many pages the head's
-- checkpoint has
pub record Rows {C A : Type 0} (m : Machine C A) : Type 1 where
  pub Op : Type 0
  pub call : C → Op
  pub acted : m.State → Op → m.State
  pub changes : m.State → C → Bool
  pub row : Op → List ℕ
  pub unrow : List ℕ → Option Op
  pub Head : Type 0
  pub head : m.State → Head
  pub opened : Head → m.State
  pub pages : Head → ℕ
  pub commit : Turn → Head → ℕ → List ℕ
  pub uncommit : List ℕ → Option (Commit Head)
  pub checkpoint : m.State → List Op
  pub Good : m.State → Type 0

-- their laws, for slots of S blocks and a ring of R: what is written can be read; a checkpoint says the state, has room in a slot after the commit record's block, and never has fewer pages than an earlier one
pub record Laws {C A : Type 0} (m : Machine C A) (S R : ℕ) (r : Rows m) : Type 1 where
  pub acted_call : (h : m.State) (c : C) → r.acted h (r.call c) ≡ m.after h c
  pub same : (h : m.State) (c : C) → r.changes h c ≡ false → m.after h c ≡ h
  pub Fine : r.Op → Type 0
  pub fine_call : (h : m.State) (c : C) → m.readable c ≡ true → r.changes h c ≡ true → Fine (r.call c)
  pub unrow_row : (o : r.Op) → Fine o → r.unrow (r.row o) ≡ some o
  pub row_whole : (o : r.Op) → Fine o → whole_row (r.row o) ≡ true
  pub uncommit_commit : (g : Turn) (h : m.State) (p : ℕ) → r.Good h → p < 16 * R → r.uncommit (r.commit g (r.head h) p) ≡ some (record { turn = g; head = r.head h; begins = p })
  pub commit_whole : (g : Turn) (h : m.State) (p : ℕ) → r.Good h → whole_row (r.commit g (r.head h) p) ≡ true
  pub good_new : r.Good m.initial
  pub good_after : (h : m.State) (c : C) → r.Good h → m.readable c ≡ true → r.Good (m.after h c)
  pub checkpoint_is : (h : m.State) → r.Good h → did r.acted (r.opened (r.head h)) (r.checkpoint h) ≡ h
  pub checkpoint_fine : (h : m.State) → r.Good h → AllOf Fine (r.checkpoint h)
  pub checkpoint_pages : (h : m.State) → r.pages (r.head h) ≡ length (r.checkpoint h)
  pub checkpoint_short : (h : m.State) → r.Good h → 16 + length (r.checkpoint h) ≤ 16 * S
  pub grows : (h : m.State) (c : C) → r.Good h → m.readable c ≡ true → length (r.checkpoint h) ≤ length (r.checkpoint (m.after h c))

-- what n pages from page b on come to, one after the other
unfoldable pub replay : {H : Type 0} → (H → Page → H) → H → Chip → ℕ → ℕ → H
replay f h d b zero = h
replay f h d b (suc n) = f (replay f h d b n) (d (b + n))

-- pages that have these rows, one after the other from page b on
unfoldable pub RowsAt : Chip → ℕ → List (List ℕ) → Type 0
RowsAt d b [] = Unit {0}
RowsAt d b (r ∷ rs) = (d b ≡ has r) × RowsAt d (suc b) rs

-- how many pages from page b on come before the first blank one, of so many at most
unfoldable pub scan : Chip → ℕ → ℕ → ℕ
scan d b zero = 0
scan d b (suc f) = pick (is_blank (d b)) 0 (suc (scan d (suc b) f))

-- which pages such a scan looks at
unfoldable pub scanned : Chip → ℕ → ℕ → List ℕ
scanned d b zero = []
scanned d b (suc f) = b ∷ pick (is_blank (d b)) [] (scanned d (suc b) f)

-- n pages from page b on
unfoldable pub pages_from : ℕ → ℕ → List ℕ
pages_from b zero = []
pages_from b (suc n) = b ∷ pages_from (suc b) n

abbrev pub acted_some : {H Op : Type 0} → (H → Op → H) → H → Option Op → H
acted_some f h none = h
acted_some f h (some o) = f h o

abbrev pub acted_page : {C A : Type 0} (m : Machine C A) (r : Rows m) → m.State → Page → m.State
acted_page m r h blank = h
acted_page m r h (has bs) = acted_some r.acted h (r.unrow bs)
acted_page m r h spoilt = h

abbrev pub commit_of : {C A : Type 0} (m : Machine C A) (r : Rows m) → Page → Option (Commit r.Head)
commit_of m r blank = none
commit_of m r (has bs) = r.uncommit bs
commit_of m r spoilt = none

-- a slot's first block, the page of its commit record, and the first page of its checkpoint; there are S blocks to a slot
abbrev pub first : ℕ → Bool → ℕ
first S x = pick x S 0

abbrev pub base : ℕ → Bool → ℕ
base S x = 16 * first S x

abbrev pub kept_at : ℕ → Bool → ℕ
kept_at S x = 16 * suc (first S x)

-- a place, going round after n of them
unfoldable pub around : ℕ → ℕ → ℕ
around n k = pick (nat_lt k n) k (k - n)

-- the page of the chip that is page k of the ring, where k may have gone round once; the ring has R blocks, after those of the slots. And the ring as a chip by itself
unfoldable pub ring_page : ℕ → ℕ → ℕ → ℕ
ring_page S R k = 16 * (S + S) + around (16 * R) k

unfoldable pub ring : ℕ → ℕ → Chip → Chip
ring S R d k = d (ring_page S R k)

abbrev pub larger : ℕ → ℕ → ℕ
larger a b = pick (nat_lt a b) b a

-- how many pages a log may have, with q pages of checkpoint: as many as these and the commit record, or 16 if these are fewer
abbrev pub longest : ℕ → ℕ
longest q = larger (suc q) 16

-- a page is written; if its place begins a block, block b is erased before
abbrev pub ahead : (A : Type 0) → ℕ → ℕ → List (Act A)
ahead A i b = pick (i % 16 == 0) (wipe b ∷ []) []

abbrev pub put : (A : Type 0) → ℕ → ℕ → ℕ → List ℕ → List (Act A)
put A i b j bs = ahead A i b ++ (write j bs ∷ [])

-- pages of a checkpoint from page n on, in the slot whose first block is f: each block is erased before its first page is written
unfoldable pub puts : (A : Type 0) → ℕ → ℕ → List (List ℕ) → List (Act A)
puts A f n [] = []
puts A f n (bs ∷ rs) = put A n (suc f + n / 16) (16 * suc f + n) bs ++ puts A f (suc n) rs

-- the block of the chip that comes after the one with place k of the ring, going round
abbrev pub next_block : ℕ → ℕ → ℕ → ℕ
next_block S R k = (S + S) + around R (suc (k / 16))

-- what the program keeps: is any slot committed yet; the slot in use, its turn, how many pages its checkpoint has, where the log begins, how many pages it has, and the state
pub record Journal {C A : Type 0} (m : Machine C A) : Type 0 where
  pub committed : Bool
  pub slot : Bool
  pub turn : Turn
  pub kept : ℕ
  pub begins : ℕ
  pub used : ℕ
  pub state : m.State

module _ {C A : Type 0} (m : Machine C A) (S R : ℕ) (r : Rows m) where
  -- a chip that was never used: the first change writes a checkpoint into the first slot
  abbrev pub never_used : Journal m
  never_used = record { committed = false; slot = true; turn = three; kept = 0; begins = 0; used = 0; state = m.initial }

  abbrev pub journal_read : Chip → Bool → Commit r.Head → Journal m
  journal_read d x s =
      let n : ℕ = scan (ring S R d) s.begins (16 * R) in
      record {
        committed = true;
        slot = x;
        turn = s.turn;
        kept = r.pages s.head;
        begins = s.begins;
        used = n;
        state = replay (acted_page m r) (replay (acted_page m r) (r.opened s.head) d (kept_at S x) (r.pages s.head)) (ring S R d) s.begins n;
      }

  abbrev pub journal_start : Chip → Option (Commit r.Head) → Option (Commit r.Head) → Journal m
  journal_start d none none = never_used
  journal_start d none (some t) = journal_read d true t
  journal_start d (some s) none = journal_read d false s
  journal_start d (some s) (some t) = pick (later t.turn s.turn) (journal_read d true t) (journal_read d false s)

  abbrev pub rows_of : m.State → List (List ℕ)
  rows_of h = map r.row (r.checkpoint h)

  -- is there room for one more page in the log; and its place in the ring
  abbrev pub has_room : Journal m → Bool
  has_room s = s.committed && nat_lt s.used (longest s.kept)

  abbrev pub place : Journal m → ℕ
  place s = around (16 * R) (s.begins + s.used)

  -- a page of the log at a place. One block is erased ahead
  abbrev pub logs : ℕ → List ℕ → List (Act A)
  logs k bs = put A k (next_block S R k) (16 * (S + S) + k) bs

  -- on a chip that was never used the ring's first two blocks are erased
  abbrev pub opens : Bool → List (Act A)
  opens b = pick b [] (wipe (S + S) ∷ (wipe (suc (S + S)) ∷ []))

  -- a checkpoint: the block of the other slot's commit record is erased, the checkpoint of the state as it will be is written, and then the commit record
  abbrev pub checkpoints : Bool → Turn → m.State → ℕ → List (Act A)
  checkpoints y g h p = wipe (first S y) ∷ (puts A (first S y) 0 (rows_of h) ++ (write (base S y) (r.commit g (r.head h) p) ∷ []))

  abbrev pub journal_quiet : Journal m → C → List (Act A)
  journal_quiet s c =
      pick (r.changes s.state c)
      (pick (has_room s) (logs (place s) (r.row (r.call c))) (opens s.committed ++ checkpoints (not s.slot) (up s.turn) (m.after s.state c) (place s))) []

  -- what is kept after one more page in the log, and after a checkpoint
  abbrev pub with_page : Journal m → m.State → Journal m
  with_page s h = record { committed = s.committed; slot = s.slot; turn = s.turn; kept = s.kept; begins = s.begins; used = suc s.used; state = h }

  abbrev pub with_checkpoint : Journal m → m.State → Journal m
  with_checkpoint s h = record { committed = true; slot = not s.slot; turn = up s.turn; kept = length (rows_of h); begins = place s; used = 0; state = h }

  abbrev pub journal_next : Journal m → C → Journal m
  journal_next s c = pick (r.changes s.state c) (pick (has_room s) (with_page s (m.after s.state c)) (with_checkpoint s (m.after s.state c))) s

  abbrev pub journal_program : Program C A
  journal_program = record {
    State = Journal m;
    start = λ d. journal_start d (commit_of m r (d (base S false))) (commit_of m r (d (base S true)));
    does = λ s c. journal_quiet s c ++ (say (m.answer s.state c) ∷ []);
    next = journal_next;
  }

  -- which pages a start looks at: both commit records, and of the slot in use the checkpoint's pages, and those of the log up to the first blank one, that one too
  abbrev pub looks_slot : Chip → Bool → Commit r.Head → List ℕ
  looks_slot d x s = pages_from (kept_at S x) (r.pages s.head) ++ map (ring_page S R) (scanned (ring S R d) s.begins (16 * R))

  abbrev pub looks_in : Chip → Option (Commit r.Head) → Option (Commit r.Head) → List ℕ
  looks_in d none none = []
  looks_in d none (some t) = looks_slot d true t
  looks_in d (some s) none = looks_slot d false s
  looks_in d (some s) (some t) = pick (later t.turn s.turn) (looks_slot d true t) (looks_slot d false s)

  abbrev pub looks : Chip → List ℕ
  looks d = base S false ∷ (base S true ∷ looks_in d (commit_of m r (d (base S false))) (commit_of m r (d (base S true))))

  -- a page that is no commit record, nor anything else that was written
  abbrev pub Bare : Page → Type 0
  Bare p = (p ≡ blank) ⊎ (p ≡ spoilt)

  -- the other slot's commit record, if it is there, is of the turn before
  abbrev pub Stale : Page → Turn → Type 0
  Stale p g = Bare p ⊎ ((s : Commit r.Head) × (commit_of m r p ≡ some s) × (up s.turn ≡ g))

  -- what a page of the log made of a state: it is spoilt, and nothing; or it has a call that was taken
  abbrev pub Passes : m.State → Page → m.State → Type 0
  Passes h p k = ((p ≡ spoilt) × (h ≡ k)) ⊎ ((c : C) × (m.readable c ≡ true) × (r.changes h c ≡ true) × (p ≡ has (r.row (r.call c))) × (m.after h c ≡ k))

  -- n pages of a log from page b on lead from one state to another, and all between are good
  unfoldable pub Logged : Chip → ℕ → m.State → ℕ → m.State → Type 0
  Logged d b h zero k = h ≡ k
  Logged d b h (suc n) k = (i : m.State) × Logged d b h n i × r.Good i × Passes i (d (b + n)) k

  -- a slot is in use: it has the checkpoint of a state that was, and the ring has a log which leads from that state to the one that is. From its end to the end of the block after (if it ends with a
  -- block: of the block after it) all is blank. It is shorter than the ring by two blocks. The page p is that of the other slot's commit record
  pub record IsInUse (d : Chip) (s : Journal m) (p : Page) : Type 0 where
    pub committed_is : s.committed ≡ true
    pub was : m.State
    pub was_good : r.Good was
    pub committed : commit_of m r (d (base S s.slot)) ≡ some (record { turn = s.turn; head = r.head was; begins = s.begins })
    pub pages_are : length (rows_of was) ≡ s.kept
    pub kept : RowsAt d (kept_at S s.slot) (rows_of was)
    pub inside : s.begins < 16 * R
    pub logged : Logged (ring S R d) s.begins was s.used s.state
    pub clear : (k : ℕ) → s.begins + s.used ≤ k → k < 16 * ((s.begins + s.used + 15) / 16 + 1) → ring S R d k ≡ blank
    pub fits : s.used + 32 ≤ 16 * R
    pub stale : Stale p s.turn

  -- none is in use yet
  pub record Unused (d : Chip) (s : Journal m) (p : Page) : Type 0 where
    pub state_is : s ≡ never_used
    pub uncommitted : Bare (d (base S s.slot))
    pub other : Bare p

  pub data Body (d : Chip) (s : Journal m) (p : Page) : Type 0 where
    in_use : IsInUse d s p → Body d s p
    unused : Unused d s p → Body d s p

  -- a chip holds what the program keeps
  pub record Held (d : Chip) (s : Journal m) : Type 0 where
    pub good : r.Good s.state
    pub body : Body d s (d (base S (not s.slot)))

  -- a chip holds a state, and the log is not longer than it may be
  abbrev pub SlotsHold : Chip → m.State → Type 0
  SlotsHold d h = (s : Journal m) × (s.state ≡ h) × Held d s × (s.used ≤ longest s.kept)

  -- a start on a chip that holds a state looks at few pages: those that the state's checkpoint with its commit record would have now, those that the log after it may have, and two. And these are all that it
  -- looks at: on another chip with the same pages there it comes to the same
  pub record StartsFast : Type 0 where
    pub few : (d : Chip) (h : m.State) → SlotsHold d h → length (looks d) ≤ suc (length (r.checkpoint h)) + longest (length (r.checkpoint h)) + 2
    pub no_more : (d e : Chip) → AllOf (λ j. e j ≡ d j) (looks d) → journal_program.start e ≡ journal_program.start d

  -- on a chip that holds a state the first page of each slot is blank or spoilt, or a commit record: whoever finds other bytes there may turn the chip away
  abbrev pub CommitsTell : Type 0
  CommitsTell = (d : Chip) (h : m.State) → SlotsHold d h → (x : Bool) → Bare (d (base S x)) ⊎ ((s : Commit r.Head) × (commit_of m r (d (base S x)) ≡ some s))

  -- a call does few acts: with room in the log it writes one page at most, and erases one block at most. Otherwise it writes the checkpoint's pages and the commit record at most, and erases the blocks that these
  -- take, and two more on a chip that was never used
  pub record FewActs : Type 0 where
    pub with_room : (s : Journal m) (c : C) → has_room s ≡ true → (writes (journal_program.does s c) ≤ 1) × (wipes (journal_program.does s c) ≤ 1)
    pub without : (s : Journal m) (c : C) → has_room s ≡ false →
        let n : ℕ = length (r.checkpoint (m.after s.state c)) in
        (writes (journal_program.does s c) ≤ suc n) × (wipes (journal_program.does s c) ≤ suc ((n + 15) / 16) + pick s.committed 0 2)

  -- pages of a block are written in rising order between two erases of it, from a chip that holds a state on
  abbrev pub InOrder : Type 0
  InOrder = (d : Chip) (h : m.State) (cs : List C) → SlotsHold d h → all_readable m cs ≡ true → Rising d (acts journal_program (journal_program.start d) cs)
