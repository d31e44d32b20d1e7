-- A start reads fewer and fewer pages more, each of them on the chip.
use Rattle.std.proofs.Common.{◌≡◌, ℕ, suc, ◌+◌, ◌-◌, ◌*◌, ◌<◌, ◌≤◌, Bool, true, false, ltb, Some, refl, arith}
use mathlib.Core.Option.{Option, none, some}
use Rattle.std.proofs.lemmas.Bool.{ltb-true}
use Rattle.meaning.specs.Lines.{pick}
use Rattle.meaning.specs.House.{House}
use Rattle.meaning.specs.Calls.{Limits}
use Rattle.meaning.specs.Chip.{Page, is_blank}
use Rattle.meaning.specs.Promise.{room_for}
use Rattle.journal.specs.Slots.{Commit, acted_page, around, commit_of, first, later, ring_page}
use Rattle.journal.specs.Codes.{is_second}
use Rattle.journal.specs.Start as start
use Rattle.journal.specs.Start.{unread, one_commit, reading, replaying, ready, wants, takes, chosen, reads_on, replays_on, found_so, OpenStill}
use Rattle.journal_rows.specs.Layout.{Head, house, rows, slot_blocks, ring_blocks, most_pages, opened, pages}
use Rattle.journal_rows.specs.Bytes.{page_bytes}
use Rattle.limits.specs.Opening.{limits_mean}
use Rattle.limits.specs.declared.Limits as code
use Rattle.journal_steps.specs.Steps.{chip_limits}
use Rattle.journal_steps.proofs.Ranges.{in_ring, in_slot, round_in, slot_on}
use Rattle.journal_start.specs.Stages.{Ranges, reading_of, wanted}
use Rattle.journal_start.specs.declared.Stage.{Stage}
use Rattle.journal_start.specs.declared.Stage.TheVariants.{Unread, OneCommit, Reading, Replaying, Ready}
use Rattle.session.proofs.Counts.{grown}

-- how many pages a start may still read, at most
abbrev pub unread_pages : (l : Limits) → start.Reading (house l) (rows l page_bytes) → ℕ
unread_pages l unread = most_pages l + 16 * ring_blocks l + 3
unread_pages l (one_commit o) = most_pages l + 16 * ring_blocks l + 2
unread_pages l (reading x s n h) = (pages s.head - n) + 16 * ring_blocks l + 1
unread_pages l (replaying x s n h) = 16 * ring_blocks l - n
unread_pages l (ready s) = 0

-- a checkpoint within the limits
abbrev pub Bounded : (l : Limits) → start.Reading (house l) (rows l page_bytes) → Type 0
Bounded l unread = Unit {0}
Bounded l (one_commit o) = Unit {0}
Bounded l (reading x s n h) = pages s.head ≤ most_pages l
Bounded l (replaying x s n h) = Unit {0}
Bounded l (ready s) = Unit {0}

module _ (l : Limits) where
  abbrev S : ℕ
  S = slot_blocks l

  abbrev R : ℕ
  R = ring_blocks l

  log_less : (x : Bool) (s : Commit Head) (n k : ℕ) (h : House) → 16 * R - n < k → 0 < k → unread_pages l (replays_on (house l) S R (rows l page_bytes) x s n h) < k
  log_less x s n k h lt p = go (ltb n (16 * R))
    where
      go : (b : Bool) → unread_pages l (pick b (replaying x s n h) (ready (found_so (house l) S R (rows l page_bytes) x s n h))) < k
      go true = lt
      go false = p

  checkpoint_less : (x : Bool) (s : Commit Head) (n k : ℕ) (h : House) → Bounded l (reads_on (house l) S R (rows l page_bytes) x s n h) → (pages s.head ≤ most_pages l → n < pages s.head → (pages s.head - n) + 16 * R + 1 < k) → 16 * R < k → unread_pages l (reads_on (house l) S R (rows l page_bytes) x s n h) < k
  checkpoint_less x s n k h = go (ltb n (pages s.head)) refl
    where
      go : (b : Bool) → ltb n (pages s.head) ≡ b → Bounded l (pick b (reading x s n h) (replays_on (house l) S R (rows l page_bytes) x s 0 h)) → (pages s.head ≤ most_pages l → n < pages s.head → (pages s.head - n) + 16 * R + 1 < k) → 16 * R < k →
          unread_pages l (pick b (reading x s n h) (replays_on (house l) S R (rows l page_bytes) x s 0 h)) < k
      go true e b f q = f b (ltb-true n (pages s.head) e)
      go false e b f q = log_less x s 0 k h (omega arith) (omega arith)

  first_less : (x : Bool) (s : Commit Head) (h : House) → Bounded l (reads_on (house l) S R (rows l page_bytes) x s 0 h) → unread_pages l (reads_on (house l) S R (rows l page_bytes) x s 0 h) < most_pages l + 16 * R + 2
  first_less x s h b = checkpoint_less x s 0 (most_pages l + 16 * R + 2) h b (λ p q. omega arith) (omega arith)

  chosen_less : (o p : Option (Commit Head)) → Bounded l (chosen (house l) S R (rows l page_bytes) o p) → unread_pages l (chosen (house l) S R (rows l page_bytes) o p) < most_pages l + 16 * R + 2
  chosen_less none none b = omega arith
  chosen_less none (some t) b = first_less true t _ b
  chosen_less (some s) none b = first_less false s _ b
  chosen_less (some s) (some t) b = go (later t.turn s.turn) b
    where
      go : (x : Bool) → Bounded l (pick x (reads_on (house l) S R (rows l page_bytes) true t 0 (opened l t.head)) (reads_on (house l) S R (rows l page_bytes) false s 0 (opened l s.head))) →
          unread_pages l (pick x (reads_on (house l) S R (rows l page_bytes) true t 0 (opened l t.head)) (reads_on (house l) S R (rows l page_bytes) false s 0 (opened l s.head))) < most_pages l + 16 * R + 2
      go true b = first_less true t _ b
      go false b = first_less false s _ b

  -- EACH PAGE LEAVES FEWER
  pub fewer : (v : start.Reading (house l) (rows l page_bytes)) (p : Page) → 0 < unread_pages l v → OpenStill (house l) S R (rows l page_bytes) v → Bounded l (takes (house l) S R (rows l page_bytes) v p) → unread_pages l (takes (house l) S R (rows l page_bytes) v p) < unread_pages l v
  fewer unread p z o b = omega arith
  fewer (one_commit c) p z o b = chosen_less c (commit_of (house l) (rows l page_bytes) p) b
  fewer (reading x s n h) p z o b = checkpoint_less x s (suc n) ((pages s.head - n) + 16 * R + 1) (acted_page (house l) (rows l page_bytes) h p) b (λ q r. omega arith) (omega arith)
  fewer (replaying x s n h) p z o b = go (is_blank p)
    where
      go : (t : Bool) → unread_pages l (pick t (ready (found_so (house l) S R (rows l page_bytes) x s n h)) (replays_on (house l) S R (rows l page_bytes) x s (suc n) (acted_page (house l) (rows l page_bytes) h p))) < 16 * R - n
      go true = z
      go false = log_less x s (suc n) (16 * R - n) (acted_page (house l) (rows l page_bytes) h p) (omega arith) z
  fewer (ready s) p z o b = absurd (omega arith)

-- the stage of the code: a page is wanted only if there is one left
pub some_left : (l : Limits) (s : Stage) (h : House) (k : ℕ) → OpenStill (house l) (slot_blocks l) (ring_blocks l) (rows l page_bytes) (reading_of l s h) → Some k ≡ wanted l (reading_of l s h) → 0 < unread_pages l (reading_of l s h)
some_left l Unread h k o e = omega arith
some_left l (OneCommit c) h k o e = omega arith
some_left l (Reading u n) h k o e = omega arith
some_left l (Replaying u n) h k o e = omega arith
some_left l (Ready j) h k o e = let z : ◌≡◌ {A = ℕ} 0 1 = cc in absurd (omega arith)

-- and it is on the chip
pub wanted_on : (l : code.Limits) (s : Stage) (h : House) (k : ℕ) → Ranges l s → Some k ≡ wanted (chip_limits l) (reading_of (chip_limits l) s h) → k < 16 * room_for (chip_limits l)
unfolding ring_page
wanted_on l Unread h k r e = let z : k ≡ 16 * first (slot_blocks (chip_limits l)) false = cc in omega (arith, slot_on (chip_limits l) false)
wanted_on l (OneCommit c) h k r e = let z : k ≡ 16 * first (slot_blocks (chip_limits l)) true = cc in omega (arith, slot_on (chip_limits l) true)
wanted_on l (Reading u n) h k r e =
    let z : k ≡ 16 * suc (first (slot_blocks (chip_limits l)) (is_second u.slot)) + n = cc in
    let w = r.within in
    let m = grown u.commit.legs u.commit.fares u.commit.bookings l.legs l.fares l.bookings w.legs w.fares w.bookings in
    omega (arith, in_slot (chip_limits l) (is_second u.slot) n (omega (arith, m, r.more)))
wanted_on l (Replaying u n) h k r e =
    let z : k ≡ 16 * (slot_blocks (chip_limits l) + slot_blocks (chip_limits l)) + around (16 * ring_blocks (chip_limits l)) (u.commit.begins + n) = cc in
    let i = round_in (16 * ring_blocks (chip_limits l)) (u.commit.begins + n) (omega (arith, r.within.begins, r.more)) in
    omega (arith, in_ring (chip_limits l) (around (16 * ring_blocks (chip_limits l)) (u.commit.begins + n)) i)
wanted_on l (Ready j) h k r e = let z : ◌≡◌ {A = ℕ} 0 1 = cc in absurd (omega arith)

-- what was read is within the limits
pub bounded : (can : ℕ → Bool) (l : code.Limits) (s : Stage) (h : House) → Ranges l s → Bounded (limits_mean can l) (reading_of (limits_mean can l) s h)
bounded can l Unread h r = tt
bounded can l (OneCommit c) h r = tt
bounded can l (Reading u n) h r = let w = r.within in grown u.commit.legs u.commit.fares u.commit.bookings l.legs l.fares l.bookings w.legs w.fares w.bookings
bounded can l (Replaying u n) h r = tt
bounded can l (Ready j) h r = tt
