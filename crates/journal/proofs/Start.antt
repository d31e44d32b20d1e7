-- A start one page at a time.
use Rattle.std.proofs.Common.{◌≡◌, ℕ, suc, ◌+◌, ◌-◌, ◌*◌, ◌<◌, Bool, true, false, ltb, refl, ap, ◌∙◌, arith}
use mathlib.Core.Option.{Option, none, some}
use Rattle.std.proofs.lemmas.Bool.{ltb-true, ltb-false}
use Rattle.meaning.specs.Lines.{pick}
use Rattle.meaning.specs.Chip.{Page, Chip, is_blank}
use Rattle.journal.specs.Machine.{Machine}
use Rattle.journal.specs.Slots.{later, Commit, Rows, replay, scan, acted_page, commit_of, base, kept_at, ring_page, ring, journal_read, journal_start}
use Rattle.journal.specs.Start.{Reading, unread, one_commit, reading, replaying, ready, found_so, wants, replays_on, reads_on, chosen, takes, replayed, comes, OpenStill, Started}
use Rattle.journal.proofs.Log.{replay_front}

module _ {C A : Type 0} (m : Machine C A) (S R : ℕ) (r : Rows m) where
  -- when the whole ring is read, there are no more pages
  replays_same : (d : Chip) (x : Bool) (s : Commit r.Head) (n : ℕ) (h : m.State) → replayed m S R r d x s n h ≡ comes m S R r d (replays_on m S R r x s n h)
  unfolding scan replay
  replays_same d x s n h = go (ltb n (16 * R)) refl
    where
      go : (b : Bool) → ltb n (16 * R) ≡ b → replayed m S R r d x s n h ≡ comes m S R r d (pick b (replaying x s n h) (ready (found_so m S R r x s n h)))
      go true e = refl
      go false e =
          let a = ltb-false n (16 * R) e in
          let z : 16 * R - n ≡ 0 = omega arith in
          let y : n + 0 ≡ n = omega arith in
          rw (z, y)

  -- when all of the checkpoint is read, the log comes next
  reads_same : (d : Chip) (x : Bool) (s : Commit r.Head) (n : ℕ) (h : m.State) → comes m S R r d (reading x s n h) ≡ comes m S R r d (reads_on m S R r x s n h)
  unfolding replay
  reads_same d x s n h = go (ltb n (r.pages s.head)) refl
    where
      go : (b : Bool) → ltb n (r.pages s.head) ≡ b → comes m S R r d (reading x s n h) ≡ comes m S R r d (pick b (reading x s n h) (replays_on m S R r x s 0 h))
      go true e = refl
      go false e =
          let a = ltb-false n (r.pages s.head) e in
          let z : r.pages s.head - n ≡ 0 = omega arith in
          rw z (replays_same d x s 0 h)

  start_in : (d : Chip) (x : Bool) (s : Commit r.Head) → journal_read m S R r d x s ≡ comes m S R r d (reads_on m S R r x s 0 (r.opened s.head))
  start_in d x s =
      let y : kept_at S x + 0 ≡ kept_at S x = omega arith in
      let z : r.pages s.head - 0 ≡ r.pages s.head = omega arith in
      let u : s.begins + 0 ≡ s.begins = omega arith in
      let t : 16 * R - 0 ≡ 16 * R = omega arith in
      let v : 0 + scan (ring S R d) s.begins (16 * R) ≡ scan (ring S R d) s.begins (16 * R) = omega arith in
      (rw (y, z, u, t, v) refl) ∙ reads_same d x s 0 (r.opened s.head)

  chosen_same : (d : Chip) (o p : Option (Commit r.Head)) → journal_start m S R r d o p ≡ comes m S R r d (chosen m S R r o p)
  chosen_same d none none = refl
  chosen_same d none (some t) = start_in d true t
  chosen_same d (some s) none = start_in d false s
  chosen_same d (some s) (some t) = go (later t.turn s.turn)
    where
      go : (b : Bool) → pick b (journal_read m S R r d true t) (journal_read m S R r d false s) ≡
          comes m S R r d (pick b (reads_on m S R r true t 0 (r.opened t.head)) (reads_on m S R r false s 0 (r.opened s.head)))
      go true = start_in d true t
      go false = start_in d false s

  -- a page of the checkpoint
  page_same : (d : Chip) (x : Bool) (s : Commit r.Head) (n : ℕ) (h : m.State) → n < r.pages s.head →
      comes m S R r d (reading x s n h) ≡ comes m S R r d (takes m S R r (reading x s n h) (d (kept_at S x + n)))
  page_same d x s n h a =
      let e : r.pages s.head - n ≡ suc (r.pages s.head - suc n) = omega arith in
      let y : suc (kept_at S x + n) ≡ kept_at S x + suc n = omega arith in
      ap (λ k. replayed m S R r d x s 0 (replay (acted_page m r) h d (kept_at S x + n) k)) e
      ∙ ap (replayed m S R r d x s 0) (replay_front (acted_page m r) h d (kept_at S x + n) (r.pages s.head - suc n) ∙ ap (λ b. replay (acted_page m r) (acted_page m r h (d (kept_at S x + n))) d b (r.pages s.head - suc n)) y)
      ∙ reads_same d x s (suc n) (acted_page m r h (d (kept_at S x + n)))

  -- a page of the log
  log_same : (d : Chip) (x : Bool) (s : Commit r.Head) (n : ℕ) (h : m.State) → n < 16 * R →
      comes m S R r d (replaying x s n h) ≡ comes m S R r d (takes m S R r (replaying x s n h) (ring S R d (s.begins + n)))
  unfolding scan replay
  log_same d x s n h a =
      let e : 16 * R - n ≡ suc (16 * R - suc n) = omega arith in
      rw e (go (is_blank (ring S R d (s.begins + n))))
    where
      k : ℕ
      k = scan (ring S R d) (suc (s.begins + n)) (16 * R - suc n)

      go : (t : Bool) →
          found_so m S R r x s (n + pick t 0 (suc (scan (ring S R d) (suc (s.begins + n)) (16 * R - suc n)))) (replay (acted_page m r) h (ring S R d) (s.begins + n) (pick t 0 (suc (scan (ring S R d) (suc (s.begins + n)) (16 * R - suc n)))))
          ≡ comes m S R r d (pick t (ready (found_so m S R r x s n h)) (replays_on m S R r x s (suc n) (acted_page m r h (ring S R d (s.begins + n)))))
      go true = let y : n + 0 ≡ n = omega arith in rw y
      go false =
          let y : s.begins + suc n ≡ suc (s.begins + n) = omega arith in
          let z : n + suc k ≡ suc n + k = omega arith in
          ap (λ i. found_so m S R r x s i (replay (acted_page m r) h (ring S R d) (s.begins + n) (suc k))) z
          ∙ ap (found_so m S R r x s (suc n + k)) (replay_front (acted_page m r) h (ring S R d) (s.begins + n) k)
          ∙ (rw y refl)
          ∙ replays_same d x s (suc n) (acted_page m r h (ring S R d (s.begins + n)))

  ring_at : (d : Chip) (k : ℕ) → ring S R d k ≡ d (ring_page S R k)
  unfolding ring
  ring_at d k = refl

  one_page : (d : Chip) (v : Reading m r) → OpenStill m S R r v → comes m S R r d v ≡ comes m S R r d (takes m S R r v (d (wants m S R r v)))
  one_page d unread o = refl
  one_page d (one_commit p) o = chosen_same d p (commit_of m r (d (base S true)))
  one_page d (reading x s n h) o = page_same d x s n h o
  one_page d (replaying x s n h) o = log_same d x s n h o ∙ ap (λ p. comes m S R r d (takes m S R r (replaying x s n h) p)) (ring_at d (s.begins + n))
  one_page d (ready s) o = refl

  still_log : (x : Bool) (s : Commit r.Head) (n : ℕ) (h : m.State) → OpenStill m S R r (replays_on m S R r x s n h)
  still_log x s n h = go (ltb n (16 * R)) refl
    where
      go : (b : Bool) → ltb n (16 * R) ≡ b → OpenStill m S R r (pick b (replaying x s n h) (ready (found_so m S R r x s n h)))
      go true e = ltb-true n (16 * R) e
      go false e = tt

  still_on : (x : Bool) (s : Commit r.Head) (n : ℕ) (h : m.State) → OpenStill m S R r (reads_on m S R r x s n h)
  still_on x s n h = go (ltb n (r.pages s.head)) refl
    where
      go : (b : Bool) → ltb n (r.pages s.head) ≡ b → OpenStill m S R r (pick b (reading x s n h) (replays_on m S R r x s 0 h))
      go true e = ltb-true n (r.pages s.head) e
      go false e = still_log x s 0 h

  still_chosen : (o p : Option (Commit r.Head)) → OpenStill m S R r (chosen m S R r o p)
  still_chosen none none = tt
  still_chosen none (some t) = still_on true t 0 (r.opened t.head)
  still_chosen (some s) none = still_on false s 0 (r.opened s.head)
  still_chosen (some s) (some t) = go (later t.turn s.turn)
    where
      go : (b : Bool) → OpenStill m S R r (pick b (reads_on m S R r true t 0 (r.opened t.head)) (reads_on m S R r false s 0 (r.opened s.head)))
      go true = still_on true t 0 (r.opened t.head)
      go false = still_on false s 0 (r.opened s.head)

  open_still : (v : Reading m r) (p : Page) → OpenStill m S R r v → OpenStill m S R r (takes m S R r v p)
  open_still unread p o = tt
  open_still (one_commit q) p o = still_chosen q (commit_of m r p)
  open_still (reading x s n h) p o = still_on x s (suc n) (acted_page m r h p)
  open_still (replaying x s n h) p o = go (is_blank p)
    where
      go : (b : Bool) → OpenStill m S R r (pick b (ready (found_so m S R r x s n h)) (replays_on m S R r x s (suc n) (acted_page m r h p)))
      go true = tt
      go false = still_log x s (suc n) (acted_page m r h p)
  open_still (ready s) p o = tt

  pub started : Started m S R r
  started = record { one_page = one_page; open_still = open_still }
