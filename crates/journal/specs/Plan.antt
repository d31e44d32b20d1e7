-- A call one act at a time. The state is the one after the call, the state in it already changed; the work says what is still to be written, erased and said. Definitions only: nothing is assumed or proved here.
use Rattle.std.specs.Prelude.{◌≡◌, ℕ, suc, ◌+◌, ◌*◌, ◌/◌, ◌%◌, Bool, List, [], ◌∷◌, ◌++◌, length, drop, ◌==◌, ◌≢◌, nat_lt, slice_index_or}
use Rattle.meaning.specs.Lines.{pick}
use Rattle.journal.specs.Acts.{Act, write, wipe, say}
use Rattle.journal.specs.Machine.{Machine}
use Rattle.journal.specs.Slots.{Rows, first, base, kept_at, next_block, puts, Journal, rows_of, has_room, place, logs, journal_next, journal_program}

pub data Work (C A : Type 0) : Type 0 where
  resting : Work C A  -- nothing is to be done
  answering : A → Work C A  -- the answer is to be said
  logging : ℕ → C → A → Work C A  -- the call is to be written, at this place of the ring; the block ahead may have to be erased first
  logging_now : ℕ → C → A → Work C A  -- the same, and the block ahead is erased
  opening : A → Work C A  -- a checkpoint on a chip that was never used: the ring's first block is to be erased
  opening_more : A → Work C A  -- its second
  erasing : A → Work C A  -- a checkpoint: the block of its commit record is to be erased
  filling : ℕ → A → Work C A  -- so many pages of the checkpoint are written; the block of the next may have to be erased first
  filling_now : ℕ → A → Work C A  -- the same, and the block is erased

-- does a place begin a block
abbrev pub begins_block : ℕ → Bool
begins_block k = k % 16 == 0

module _ {C A : Type 0} (m : Machine C A) (S R : ℕ) (r : Rows m) where
  abbrev pub commit_write : Journal m → Act A
  commit_write s = write (base S s.slot) (r.commit s.turn (r.head s.state) s.begins)

  -- pages of the checkpoint from page j on, the commit record, the answer
  abbrev pub fills : Journal m → ℕ → A → List (Act A)
  fills s j a = puts A (first S s.slot) j (drop j (rows_of m S R r s.state)) ++ (commit_write s ∷ (say a ∷ []))

  abbrev pub fill : Journal m → ℕ → Act A
  fill s j = write (kept_at S s.slot + j) (slice_index_or (rows_of m S R r s.state) j [])

  abbrev pub log_page : ℕ → C → Act A
  log_page k c = write (16 * (S + S) + k) (r.row (r.call c))

  -- all that is still to be done
  abbrev pub plan : Journal m → Work C A → List (Act A)
  plan s resting = []
  plan s (answering a) = say a ∷ []
  plan s (logging k c a) = logs m S R r k (r.row (r.call c)) ++ (say a ∷ [])
  plan s (logging_now k c a) = log_page k c ∷ (say a ∷ [])
  plan s (opening a) = wipe (S + S) ∷ (wipe (suc (S + S)) ∷ (wipe (first S s.slot) ∷ fills s 0 a))
  plan s (opening_more a) = wipe (suc (S + S)) ∷ (wipe (first S s.slot) ∷ fills s 0 a)
  plan s (erasing a) = wipe (first S s.slot) ∷ fills s 0 a
  plan s (filling j a) = fills s j a
  plan s (filling_now j a) = fill s j ∷ fills s (suc j) a

  -- the next act, and what is left after it. At rest there is none
  abbrev pub act_of : A → Journal m → Work C A → Act A
  act_of z s resting = say z
  act_of z s (answering a) = say a
  act_of z s (logging k c a) = pick (begins_block k) (wipe (next_block S R k)) (log_page k c)
  act_of z s (logging_now k c a) = log_page k c
  act_of z s (opening a) = wipe (S + S)
  act_of z s (opening_more a) = wipe (suc (S + S))
  act_of z s (erasing a) = wipe (first S s.slot)
  act_of z s (filling j a) = pick (nat_lt j (length (rows_of m S R r s.state))) (pick (begins_block j) (wipe (suc (first S s.slot) + j / 16)) (fill s j)) (commit_write s)
  act_of z s (filling_now j a) = fill s j

  abbrev pub left_of : Journal m → Work C A → Work C A
  left_of s resting = resting
  left_of s (answering a) = resting
  left_of s (logging k c a) = pick (begins_block k) (logging_now k c a) (answering a)
  left_of s (logging_now k c a) = answering a
  left_of s (opening a) = opening_more a
  left_of s (opening_more a) = erasing a
  left_of s (erasing a) = filling 0 a
  left_of s (filling j a) = pick (nat_lt j (length (rows_of m S R r s.state))) (pick (begins_block j) (filling_now j a) (filling (suc j) a)) (answering a)
  left_of s (filling_now j a) = filling (suc j) a

  -- what a call begins with, of the state before it
  abbrev pub begins : Journal m → C → Work C A
  begins s c =
      let a : A = m.answer s.state c in
      pick (r.changes s.state c) (pick (has_room m S R r s) (logging (place m S R r s) c a) (pick s.committed (erasing a) (opening a))) (answering a)

  -- the acts of a call are its plan, and each act takes the plan's first away
  pub record Planned : Type 0 where
    pub whole : (s : Journal m) (c : C) → (journal_program m S R r).does s c ≡ plan (journal_next m S R r s c) (begins s c)
    pub one_act : (z : A) (s : Journal m) (w : Work C A) → (w ≢ resting) → plan s w ≡ act_of z s w ∷ plan s (left_of s w)
