-- No chip that holds a house is refused.
use Rattle.std.proofs.Common.{◌≡◌, ℕ, zero, suc, ◌+◌, ◌<◌, true, false, ◌⊎◌, List, [], ◌∷◌, map, length, get_or, refl, ap, ◌∙◌, inl, inr, arith}
use mathlib.Core.Option.{some}
use Rattle.meaning.specs.House.{House}
use Rattle.meaning.specs.Calls.{Limits, free}
use Rattle.meaning.specs.Chip.{Page, has, Chip}
use Rattle.meaning.specs.Promise.{GoodLimits, room_for}
use Rattle.journal.specs.Slots.{Commit, commit_of, base, kept_at, ring_page, ring, Bare, SlotsHold}
use Rattle.journal.specs.Start.{Reading, unread, one_commit, reading, replaying, ready, wants, OpenStill}
use Rattle.journal_rows.specs.Layout.{house, slot_blocks, ring_blocks, Op, taken_call, checkpoint, rows}
use Rattle.journal_rows.specs.Bytes.{row, page_bytes}
use Rattle.journal_house.proofs.Laws.{laws, room_is}
use Rattle.journal_house.proofs.Stays.{call_fine}
use Rattle.journal_house.proofs.Number.{by_number}
use Rattle.journal_house.proofs.Right.{known_chip}
use Rattle.journal_start.specs.Starting.{NoCommit, NoCheckpoint, IsNoCall, Unfit, MetHouse, AcceptsHouses}
use Rattle.journal_start.proofs.Meets.{meets_on, PageOf, page_met, LogPage, log_met}

row_at : (os : List Op) (n : ℕ) (o : Op) → n < length os → get_or (map row os) n [] ≡ row (get_or os n o)
row_at [] n o h = absurd (omega arith)
row_at (x ∷ os) zero o h = refl
row_at (x ∷ os) (suc n) o h = row_at os n o (omega arith)

module _ (l : Limits) (gl : GoodLimits l) where
  -- a commit page
  commit_fit : (p : Page) → Bare (house l) (slot_blocks l) (ring_blocks l) (rows l page_bytes) p ⊎ ((s : Commit (rows l page_bytes).Head) × (commit_of (house l) (rows l page_bytes) p ≡ some s)) → NoCommit l p → ⊥
  commit_fit p (inl (inl z)) v = v.not_blank z
  commit_fit p (inl (inr z)) v = v.not_spoilt z
  commit_fit p (inr (s, z)) v = let q = v.no_commit in let y : ◌≡◌ {A = ℕ} 0 1 = cc in omega arith

  -- a page of the checkpoint
  page_fit : (s : Commit (rows l page_bytes).Head) (n : ℕ) (g : House) (p : Page) → PageOf (house l) (slot_blocks l) (ring_blocks l) (rows l page_bytes) (laws l gl) (room_for l) (room_is l).0 (room_is l).1 s n g p →
      NoCheckpoint l s.head n g p → ⊥
  page_fit s n g p v bad =
      bad v.was v.good v.head_is
      (v.page_is ∙ ap has (row_at (checkpoint v.was) n (taken_call (free 0 0)) v.inside ∙ ap row (by_number v.was n (taken_call (free 0 0)) v.inside))) v.last

  -- a page of the log
  log_fit : (p : Page) → LogPage (house l) (slot_blocks l) (ring_blocks l) (rows l page_bytes) (laws l gl) (room_for l) (room_is l).0 (room_is l).1 p → IsNoCall p → ⊥
  log_fit p (inl z) v = v.not_blank z
  log_fit p (inr (inl z)) v = v.not_spoilt z
  log_fit p (inr (inr (a, c, ok, ch, z))) v = v.no_call c (call_fine l a c ok ch) z

  ring_at : (d : Chip) (k : ℕ) → ring (slot_blocks l) (ring_blocks l) d k ≡ d (ring_page (slot_blocks l) (ring_blocks l) k)
  unfolding ring
  ring_at d k = refl

  fits_house : (d : Chip) (h : House) → SlotsHold (house l) (slot_blocks l) (ring_blocks l) (rows l page_bytes) d h → (v : Reading (house l) (rows l page_bytes)) → MetHouse l d v →
      OpenStill (house l) (slot_blocks l) (ring_blocks l) (rows l page_bytes) v → Unfit l v (d (wants (house l) (slot_blocks l) (ring_blocks l) (rows l page_bytes) v)) → ⊥
  fits_house d h hold unread m o bad = commit_fit (d (base (slot_blocks l) false)) (known_chip l gl d h hold false) bad
  fits_house d h hold (one_commit q) m o bad = commit_fit (d (base (slot_blocks l) true)) (known_chip l gl d h hold true) bad
  fits_house d h hold (reading x s n g) m o bad =
      page_fit s n g (d (kept_at (slot_blocks l) x + n))
      (page_met (house l) (slot_blocks l) (ring_blocks l) (rows l page_bytes) (laws l gl) (room_for l) (room_is l).0 (room_is l).1 d h hold x s n g m) bad
  fits_house d h hold (replaying x s n g) m o bad =
      log_fit (d (ring_page (slot_blocks l) (ring_blocks l) (s.begins + n)))
      (rw (← ring_at d (s.begins + n)) (log_met (house l) (slot_blocks l) (ring_blocks l) (rows l page_bytes) (laws l gl) (room_for l) (room_is l).0 (room_is l).1 d h hold x s n g m)) bad
  fits_house d h hold (ready s) m o bad = bad

pub accepts_houses : AcceptsHouses
accepts_houses l gl = record {
  begins = λ d. tt;
  goes_on = meets_on (house l) (slot_blocks l) (ring_blocks l) (rows l page_bytes);
  ends = λ d s e. e;
  fit = fits_house l gl;
}
