-- What a start has met on a chip, page after page, for any machine with rows; and on a chip that holds a state, the slot in use, each page of its checkpoint and each page of its log.
use Rattle.std.proofs.Common.{◌≡◌, ℕ, zero, suc, ◌+◌, ◌*◌, ◌<◌, ◌≤◌, Bool, true, false, not, ltb, ◌⊎◌, [], length, get_or, sym, refl, ap, ◌∙◌, subst, inl, inr, arith}
use mathlib.Core.Option.{Option, none, some}
use Rattle.std.proofs.lemmas.Bool.{cases_lt, ltb-true, ltb-false}
use Rattle.meaning.specs.Lines.{pick}
use Rattle.meaning.specs.Chip.{Page, blank, has, spoilt, Chip, is_blank}
use Rattle.journal.specs.Machine.{Machine}
use Rattle.journal.specs.Slots.{later, Commit, Rows, Laws, replay, scan, acted_page, commit_of, base, kept_at, ring_page, ring, Journal, journal_read, journal_start, journal_program, rows_of, Stale, Passes, IsInUse, Body, in_use, unused, SlotsHold}
use Rattle.journal.specs.Start.{Reading, unread, one_commit, reading, replaying, ready, found_so, wants, replays_on, reads_on, chosen, takes, OpenStill}
use Rattle.journal.proofs.Slots.{bare_none, later_up, later_down, found_end, pages_kept, comes_was, its_seal, checkpoint_read, log_read}
use Rattle.journal_start.specs.Starting.{chosen_slot, slot_of, checkpoint_so, log_so, MetCheckpoint, MetLog, Met}

-- a scan passes no more pages than it may
scan_most : (most : ℕ) (d : Chip) (b : ℕ) → scan d b most ≤ most
unfolding scan
scan_most zero d b = omega arith
scan_most (suc most) d b = go (is_blank (d b)) (scan_most most d (suc b))
  where
    go : (t : Bool) → scan d (suc b) most ≤ most → pick t 0 (suc (scan d (suc b) most)) ≤ suc most
    go true h = omega arith
    go false h = omega arith

-- where it stops, and where it does not
scan_stops : (most : ℕ) (d : Chip) (b n : ℕ) → n ≤ scan d b most → n < most → is_blank (d (b + n)) ≡ true → scan d b most ≡ n
unfolding scan
scan_stops zero d b n h l z = absurd (omega arith)
scan_stops (suc most) d b zero h l z = let q : b + 0 ≡ b = omega arith in rw (rw q at z)
scan_stops (suc most) d b (suc n) h0 l z = go (is_blank (d b)) h0 (λ h. scan_stops most d (suc b) n h (omega arith) (subst (λ k. is_blank (d k) ≡ true) q z))
  where
    q : b + suc n ≡ suc b + n
    q = omega arith

    go : (t : Bool) → suc n ≤ pick t 0 (suc (scan d (suc b) most)) → (n ≤ scan d (suc b) most → scan d (suc b) most ≡ n) → pick t 0 (suc (scan d (suc b) most)) ≡ suc n
    go true h v = absurd (omega arith)
    go false h v = ap suc (v (omega arith))

scan_passes : (most : ℕ) (d : Chip) (b n : ℕ) → n ≤ scan d b most → n < most → is_blank (d (b + n)) ≡ false → suc n ≤ scan d b most
unfolding scan
scan_passes zero d b n h l z = absurd (omega arith)
scan_passes (suc most) d b zero h l z = let q : b + 0 ≡ b = omega arith in rw (rw q at z) (omega arith)
scan_passes (suc most) d b (suc n) h0 l z = go (is_blank (d b)) h0 (λ h. scan_passes most d (suc b) n h (omega arith) (subst (λ k. is_blank (d k) ≡ false) q z))
  where
    q : b + suc n ≡ suc b + n
    q = omega arith

    go : (t : Bool) → suc n ≤ pick t 0 (suc (scan d (suc b) most)) → (n ≤ scan d (suc b) most → suc n ≤ scan d (suc b) most) → suc (suc n) ≤ pick t 0 (suc (scan d (suc b) most))
    go true h v = absurd (omega arith)
    go false h v = let y = v (omega arith) in omega arith

-- one slot is in use
one_slot : {K : Type 0} (u v : Bool × Commit K) → some u ≡ some v → u ≡ v
one_slot u v e = cc

no_slot : {K : Type 0} (v : Bool × Commit K) → none ≡ some v → ⊥
no_slot v e = let z : ◌≡◌ {A = ℕ} 0 1 = cc in omega arith

module _ {C A : Type 0} (m : Machine C A) (S R : ℕ) (r : Rows m) where
  -- the program reads the slot in use
  read_of : (d : Chip) (o p : Option (Commit r.Head)) (x : Bool) (s : Commit r.Head) → chosen_slot o p ≡ some (x, s) → journal_start m S R r d o p ≡ journal_read m S R r d x s
  read_of d none none x s e = let z : ◌≡◌ {A = ℕ} 0 1 = cc in absurd (omega arith)
  read_of d none (some t) x s e = ap (λ v. journal_read m S R r d v.0 v.1) (one_slot (true, t) (x, s) e)
  read_of d (some u) none x s e = ap (λ v. journal_read m S R r d v.0 v.1) (one_slot (false, u) (x, s) e)
  read_of d (some u) (some t) x s e0 = go (later t.turn u.turn) e0
    where
      go : (c : Bool) → pick {A = Option (Bool × Commit r.Head)} c (some (true, t)) (some (false, u)) ≡ some (x, s) → pick c (journal_read m S R r d true t) (journal_read m S R r d false u) ≡ journal_read m S R r d x s
      go true e = ap (λ v. journal_read m S R r d v.0 v.1) (one_slot (true, t) (x, s) e)
      go false e = ap (λ v. journal_read m S R r d v.0 v.1) (one_slot (false, u) (x, s) e)

  -- a log that ends after n pages is what the program starts with
  found_all : (d : Chip) (x : Bool) (s : Commit r.Head) (n : ℕ) (h : m.State) → slot_of m S R r d ≡ some (x, s) → scan (ring S R d) s.begins (16 * R) ≡ n → h ≡ log_so m S R r d x s n →
      found_so m S R r x s n h ≡ (journal_program m S R r).start d
  found_all d x s n h e q z =
      let v = read_of d (commit_of m r (d (base S false))) (commit_of m r (d (base S true))) x s e in
      sym (v ∙ (rw (q, ← z) refl))

  met_replays : (d : Chip) (x : Bool) (s : Commit r.Head) (n : ℕ) (h : m.State) → slot_of m S R r d ≡ some (x, s) → n ≤ scan (ring S R d) s.begins (16 * R) → h ≡ log_so m S R r d x s n →
      Met m S R r d (replays_on m S R r x s n h)
  met_replays d x s n h e a z = go (ltb n (16 * R)) refl
    where
      go : (t : Bool) → ltb n (16 * R) ≡ t → Met m S R r d (pick t (replaying x s n h) (ready (found_so m S R r x s n h)))
      go true q = record { slot = e; there = a; so_far = z }
      go false q = let u = ltb-false n (16 * R) q in let v = scan_most (16 * R) (ring S R d) s.begins in found_all d x s n h e (omega arith) z

  met_reads : (d : Chip) (x : Bool) (s : Commit r.Head) (n : ℕ) (h : m.State) → slot_of m S R r d ≡ some (x, s) → n ≤ r.pages s.head → h ≡ checkpoint_so m S R r d x s n →
      Met m S R r d (reads_on m S R r x s n h)
  unfolding replay
  met_reads d x s n h e a z = go (ltb n (r.pages s.head)) refl
    where
      go : (t : Bool) → ltb n (r.pages s.head) ≡ t → Met m S R r d (pick t (reading x s n h) (replays_on m S R r x s 0 h))
      go true q = record { slot = e; more = ltb-true n (r.pages s.head) q; so_far = z }
      go false q =
          let u = ltb-false n (r.pages s.head) q in
          let v : n ≡ r.pages s.head = omega arith in
          met_replays d x s 0 h e (omega arith) (z ∙ ap (checkpoint_so m S R r d x s) v)

  met_chosen : (d : Chip) (o p : Option (Commit r.Head)) → commit_of m r (d (base S false)) ≡ o → commit_of m r (d (base S true)) ≡ p → Met m S R r d (chosen m S R r o p)
  unfolding replay
  met_chosen d none none e f = rw (e, f)
  met_chosen d none (some t) e f = met_reads d true t 0 (r.opened t.head) (rw (e, f)) (omega arith) refl
  met_chosen d (some s) none e f = met_reads d false s 0 (r.opened s.head) (rw (e, f)) (omega arith) refl
  met_chosen d (some s) (some t) e f = go (later t.turn s.turn) (rw (e, f))
    where
      go : (b : Bool) → slot_of m S R r d ≡ pick b (some (true, t)) (some (false, s)) → Met m S R r d (pick b (reads_on m S R r true t 0 (r.opened t.head)) (reads_on m S R r false s 0 (r.opened s.head)))
      go true q = met_reads d true t 0 (r.opened t.head) q (omega arith) refl
      go false q = met_reads d false s 0 (r.opened s.head) q (omega arith) refl

  ring_at : (d : Chip) (k : ℕ) → ring S R d k ≡ d (ring_page S R k)
  unfolding ring
  ring_at d k = refl

  -- A START HAS ALWAYS MET WHAT THE CHIP HAS
  pub meets_on : (d : Chip) (v : Reading m r) → Met m S R r d v → OpenStill m S R r v → Met m S R r d (takes m S R r v (d (wants m S R r v)))
  unfolding replay
  meets_on d unread w o = refl
  meets_on d (one_commit q) w o = met_chosen d q (commit_of m r (d (base S true))) (sym w) refl
  meets_on d (reading x s n h) w o =
      met_reads d x s (suc n) (acted_page m r h (d (kept_at S x + n))) w.slot (let a = w.more in omega arith) (ap (λ g. acted_page m r g (d (kept_at S x + n))) w.so_far)
  meets_on d (replaying x s n h) w o = rw (← ring_at d (s.begins + n)) (go (is_blank (ring S R d (s.begins + n))) refl)
    where
      go : (t : Bool) → is_blank (ring S R d (s.begins + n)) ≡ t →
          Met m S R r d (pick t (ready (found_so m S R r x s n h)) (replays_on m S R r x s (suc n) (acted_page m r h (ring S R d (s.begins + n)))))
      go true e = found_all d x s n h w.slot (scan_stops (16 * R) (ring S R d) s.begins n w.there o e) w.so_far
      go false e =
          met_replays d x s (suc n) (acted_page m r h (ring S R d (s.begins + n))) w.slot (scan_passes (16 * R) (ring S R d) s.begins n w.there o e)
          (ap (λ g. acted_page m r g (ring S R d (s.begins + n))) w.so_far)
  meets_on d (ready s) w o = w

module _ {C A : Type 0} (m : Machine C A) (S R : ℕ) (r : Rows m) (w : Laws m S R r) (nb : ℕ) (fits : S + S + R ≤ nb) (wide : S + 2 ≤ R) where
  -- of a chip that holds a state either no slot is in use, or the one that is chosen
  abbrev SlotIs : Chip → Journal m → Bool → Type 0
  SlotIs d s x = (slot_of m S R r d ≡ none) ⊎ ((u : IsInUse m S R r d s (d (base S (not x)))) × (slot_of m S R r d ≡ some (x, its_seal m S R r w nb fits wide d s _ u)))

  slot_is : (d : Chip) (s : Journal m) (x : Bool) → s.slot ≡ x → Body m S R r d s (d (base S (not x))) → SlotIs d s x
  slot_is d s true e (in_use u) = inr (u, go u.stale)
    where
      sl : commit_of m r (d (base S true)) ≡ some (its_seal m S R r w nb fits wide d s _ u)
      sl = rw e at u.committed

      go : Stale m S R r (d (base S false)) s.turn → slot_of m S R r d ≡ some (true, its_seal m S R r w nb fits wide d s _ u)
      go (inl z) = rw (bare_none m S R r w nb fits wide (d (base S false)) z, sl)
      go (inr (t, z, v)) = rw (z, sl, ← v, later_up m S R r w nb fits wide t.turn)
  slot_is d s false e (in_use u) = inr (u, go u.stale)
    where
      sl : commit_of m r (d (base S false)) ≡ some (its_seal m S R r w nb fits wide d s _ u)
      sl = rw e at u.committed

      go : Stale m S R r (d (base S true)) s.turn → slot_of m S R r d ≡ some (false, its_seal m S R r w nb fits wide d s _ u)
      go (inl z) = rw (bare_none m S R r w nb fits wide (d (base S true)) z, sl)
      go (inr (t, z, v)) = rw (z, sl, ← v, later_down m S R r w nb fits wide t.turn)
  slot_is d s true e (unused u) = inl (rw (bare_none m S R r w nb fits wide (d (base S false)) u.other, bare_none m S R r w nb fits wide (d (base S true)) (rw e at u.uncommitted)))
  slot_is d s false e (unused u) = let y = u.state_is in let z : ◌≡◌ {A = ℕ} 0 1 = cc in absurd (omega arith)

  -- WHAT A PAGE OF THE CHECKPOINT IS on a chip that holds a state: that page of the checkpoint of a good state, and with the last the pages came to it
  pub record PageOf (s : Commit r.Head) (n : ℕ) (g : m.State) (p : Page) : Type 0 where
    pub was : m.State
    pub good : r.Good was
    pub head_is : r.head was ≡ s.head
    pub inside : n < length (r.checkpoint was)
    pub page_is : p ≡ has (get_or (rows_of m S R r was) n [])
    pub last : suc n ≡ r.pages s.head → acted_page m r g p ≡ was

  pub page_met : (d : Chip) (h : m.State) → SlotsHold m S R r d h → (x : Bool) (s : Commit r.Head) (n : ℕ) (g : m.State) → MetCheckpoint m S R r d x s n g → PageOf s n g (d (kept_at S x + n))
  unfolding replay
  page_met d h (j, e, l, brief) x s n g v = go (slot_is d j j.slot refl l.body)
    where
      Goal : Bool × Commit r.Head → Type 0
      Goal c = n < r.pages c.1.head → g ≡ checkpoint_so m S R r d c.0 c.1 n → PageOf c.1 n g (d (kept_at S c.0 + n))

      here : (u : IsInUse m S R r d j (d (base S (not j.slot)))) → Goal (j.slot, its_seal m S R r w nb fits wide d j _ u)
      here u a z =
          let k = pages_kept m S R r w nb fits wide d j _ u in
          let b = checkpoint_read m S R r w nb fits wide d j _ u n (omega arith) in
          let y = w.checkpoint_pages u.was in
          record {
            was = u.was;
            good = u.was_good;
            head_is = refl;
            inside = omega arith;
            page_is = b.0;
            last = λ q.
                (ap (λ i. acted_page m r i (d (kept_at S j.slot + n))) z ∙ ap (checkpoint_so m S R r d j.slot (its_seal m S R r w nb fits wide d j _ u)) (q ∙ k)
                ∙ comes_was m S R r w nb fits wide d j _ u);
          }

      go : SlotIs d j j.slot → PageOf s n g (d (kept_at S x + n))
      go (inl z) = absurd (no_slot (x, s) (sym z ∙ v.slot))
      go (inr (u, z)) = subst Goal (one_slot (j.slot, its_seal m S R r w nb fits wide d j _ u) (x, s) (sym z ∙ v.slot)) (here u) v.more v.so_far

  -- WHAT A PAGE OF THE LOG IS: blank, spoilt, or a call that was taken
  abbrev pub CallOn : Page → Type 0
  CallOn p = (a : m.State) × (c : C) × (m.readable c ≡ true) × (r.changes a c ≡ true) × (p ≡ has (r.row (r.call c)))

  abbrev pub LogPage : Page → Type 0
  LogPage p = (p ≡ blank) ⊎ ((p ≡ spoilt) ⊎ CallOn p)

  pub log_met : (d : Chip) (h : m.State) → SlotsHold m S R r d h → (x : Bool) (s : Commit r.Head) (n : ℕ) (g : m.State) → MetLog m S R r d x s n g → LogPage (ring S R d (s.begins + n))
  log_met d h (j, e, l, brief) x s n g v = go (slot_is d j j.slot refl l.body)
    where
      Goal : Bool × Commit r.Head → Type 0
      Goal c = n ≤ scan (ring S R d) c.1.begins (16 * R) → LogPage (ring S R d (c.1.begins + n))

      passed : (a b : m.State) (p : Page) → Passes m S R r a p b → LogPage p
      passed a b p (inl (q, z)) = inr (inl q)
      passed a b p (inr (c, ok, ch, q, z)) = inr (inr (a, c, ok, ch, q))

      here : (u : IsInUse m S R r d j (d (base S (not j.slot)))) → Goal (j.slot, its_seal m S R r w nb fits wide d j _ u)
      here u a =
          let k = found_end m S R r w nb fits wide d j _ u in
          elim (cases_lt n j.used) [
            | inl z ↦ passed _ _ _ (log_read m S R r w nb fits wide d j _ u n z).1
            | inr z ↦ inl (u.clear (j.begins + n) (omega arith) (omega arith))
          ]

      go : SlotIs d j j.slot → LogPage (ring S R d (s.begins + n))
      go (inl z) = absurd (no_slot (x, s) (sym z ∙ v.slot))
      go (inr (u, z)) = subst Goal (one_slot (j.slot, its_seal m S R r w nb fits wide d j _ u) (x, s) (sym z ∙ v.slot)) (here u) v.there
