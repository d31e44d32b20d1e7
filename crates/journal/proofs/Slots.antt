-- The journal in two slots and a ring is the state; a start looks at few pages, a call does few acts, and pages of a block are written in rising order.
use Rattle.std.proofs.Common.{◌≡◌, ℕ, zero, suc, ◌+◌, ◌-◌, ◌*◌, ◌/◌, ◌%◌, ◌<◌, ◌≤◌, Bool, true, false, not, ltb, ◌⊎◌, List, [], ◌∷◌, ◌++◌, map, length, get_or, take, sym, refl, ap, ◌∙◌, subst, inl, inr, append_assoc, arith, length-append}
use mathlib.Core.Path.{fun_ext}
use mathlib.Core.Option.{Option, none, some}
use Rattle.std.proofs.lemmas.Bool.{and_parts, and_from, cases_eq, lt-ltb, ltb-true, ltb-false}
use Rattle.meaning.specs.Lines.{pick}
use Rattle.meaning.specs.Chip.{Page, blank, has, spoilt, Chip, is_blank}
use Rattle.journal.specs.Acts.{Act, write, wipe, say, done, all_done, Torn, LeftAfter, said, careful}
use Rattle.journal.specs.Costs.{Rising, writes, wipes}
use Rattle.journal.specs.Machine.{Machine, IsMachine, Steps, ReadsBy}
use Rattle.journal.specs.Slots.{Turn, one, two, three, up, later, whole_row, did, AllOf, Commit, Rows, Laws, replay, RowsAt, scan, scanned, pages_from, acted_page, commit_of, first, base, kept_at, around, ring_page, ring, longest, ahead, puts, next_block, Journal, never_used, journal_read, journal_start, rows_of, has_room, place, logs, opens, checkpoints, journal_quiet, with_page, with_checkpoint, journal_program, looks_slot, looks_in, Bare, Stale, Passes, Logged, IsInUse, Body, in_use, unused, Held, SlotsHold, StartsFast, CommitsTell, FewActs, InOrder}
use Rattle.journal.proofs.Log.{But, written_but, written_at, wiped_in, wiped_off, LeftAt, nothing, whole, part, torn_write, replay_same, replay_front}
use Rattle.journal.proofs.Runs.{left-++, all-done-++, rows_same, Rest, Away, ahead_off, ahead_in, ahead_torn, put_is, put_careful, put_rises, put_silent, put_writes, put_wipes, puts_off, puts_torn, puts_in, puts_careful, puts_rise, puts_silent, puts_writes, puts_wipes, around_is, ring_is, place_in, block_in, place_mod, apart_in, hit, miss, scan_log, scanned_few, scanned_same, pages_many, pages_each}
use Rattle.journal.proofs.Machine.{careful-++, said-++, rising-++, steps_suffice, run_rises}

pub not_not : (x : Bool) → not (not x) ≡ x
not_not true = refl
not_not false = refl

pub apart : (S : ℕ) (x : Bool) → (first S x + S ≤ first S (not x)) ⊎ (first S (not x) + S ≤ first S x)
apart S true = inr (omega arith)
apart S false = inl (omega arith)

pub in_slots : (S : ℕ) (x : Bool) → first S x + S ≤ S + S
in_slots S true = omega arith
in_slots S false = omega arith

-- how long a log may be
pub longest_is : (q : ℕ) → ((suc q < 16) × (longest q ≡ 16)) ⊎ ((16 ≤ suc q) × (longest q ≡ suc q))
longest_is q = go (ltb (suc q) 16) refl
  where
    go : (t : Bool) → ltb (suc q) 16 ≡ t → ((suc q < 16) × (pick t 16 (suc q) ≡ 16)) ⊎ ((16 ≤ suc q) × (pick t 16 (suc q) ≡ suc q))
    go true e = inl (ltb-true (suc q) 16 e, refl)
    go false e = inr (ltb-false (suc q) 16 e, refl)

module _ {C A : Type 0} (m : Machine C A) (S R : ℕ) (r : Rows m) (w : Laws m S R r) (nb : ℕ) (fits : S + S + R ≤ nb) (wide : S + 2 ≤ R) where
  -- one chip is another in a slot
  abbrev SameSlot : Bool → Chip → Chip → Type 0
  SameSlot x d e = (j : ℕ) → base S x ≤ j → j < base S x + 16 * S → e j ≡ d j

  -- and in the ring as far as the log tells
  abbrev SameLog : Journal m → Chip → Chip → Type 0
  SameLog s d e = (k : ℕ) → s.begins ≤ k → k < 16 * ((s.begins + s.used + 15) / 16 + 1) → ring S R e k ≡ ring S R d k

  pub bare_none : (p : Page) → Bare m S R r p → commit_of m r p ≡ none
  bare_none p (inl z) = rw z
  bare_none p (inr z) = rw z

  stale_move : (o p : Page) (g : Turn) → (p ≡ o) ⊎ Bare m S R r p → Stale m S R r o g → Stale m S R r p g
  stale_move o p g (inl q) s = rw q s
  stale_move o p g (inr q) s = inl q

  bare_move : (o p : Page) → (p ≡ o) ⊎ Bare m S R r p → Bare m S R r o → Bare m S R r p
  bare_move o p (inl q) s = rw q s
  bare_move o p (inr q) s = q

  -- the pages of a checkpoint, read
  replay_rows : (d : Chip) (h : m.State) (b : ℕ) (os : List r.Op) → AllOf w.Fine os → RowsAt d b (map r.row os) →
      replay (acted_page m r) h d b (length (map r.row os)) ≡ did r.acted h os
  unfolding AllOf RowsAt did replay
  replay_rows d h b [] f q = refl
  replay_rows d h b (o ∷ os) f q =
      replay_front (acted_page m r) h d b (length (map r.row os)) ∙ rw (q.0, w.unrow_row o f.0) (replay_rows d (r.acted h o) (suc b) os f.1 q.1)

  pub rows_whole : (os : List r.Op) → AllOf w.Fine os → AllOf (λ v. whole_row v ≡ true) (map r.row os)
  unfolding AllOf
  rows_whole [] f = tt
  rows_whole (o ∷ os) f = (w.row_whole o f.0, rows_whole os f.1)

  pub length_rows : (os : List r.Op) → length (map r.row os) ≡ length os
  length_rows [] = refl
  length_rows (o ∷ os) = ap suc (length_rows os)

  pub short_rows : (h : m.State) → r.Good h → 16 + length (rows_of m S R r h) ≤ 16 * S
  short_rows h gd = let a = w.checkpoint_short h gd in let b = length_rows (r.checkpoint h) in omega arith

  -- a log on another chip with the same pages
  pub logged_same : (d e : Chip) (b : ℕ) (h : m.State) (n : ℕ) (k : m.State) → ((i : ℕ) → i < n → e (b + i) ≡ d (b + i)) → Logged m S R r d b h n k → Logged m S R r e b h n k
  unfolding Logged
  logged_same d e b h zero k s l = l
  logged_same d e b h (suc n) k s (i, l, gd, p) = (i, logged_same d e b h n i (λ j a. s j (omega arith)) l, gd, rw (s n (omega arith)) p)

  -- what a log comes to, that none of its pages is blank, and that checkpoints do not shrink over it
  passes_acted : (h : m.State) (p : Page) (k : m.State) → Passes m S R r h p k → acted_page m r h p ≡ k
  passes_acted h p k (inl (e, q)) = rw e q
  passes_acted h p k (inr (c, ok, ch, e, q)) = rw (e, w.unrow_row (r.call c) (w.fine_call h c ok ch)) (w.acted_call h c ∙ q)

  passes_there : (h : m.State) (p : Page) (k : m.State) → Passes m S R r h p k → is_blank p ≡ false
  unfolding is_blank
  passes_there h p k (inl (e, q)) = rw e
  passes_there h p k (inr (c, ok, ch, e, q)) = rw e

  passes_grown : (h : m.State) (p : Page) (k : m.State) → r.Good h → Passes m S R r h p k → length (r.checkpoint h) ≤ length (r.checkpoint k)
  passes_grown h p k gd (inl (e, q)) = rw q (omega arith)
  passes_grown h p k gd (inr (c, ok, ch, e, q)) = rw (← q) (w.grows h c gd ok)

  logged_is : (d : Chip) (b : ℕ) (h : m.State) (n : ℕ) (k : m.State) → Logged m S R r d b h n k → replay (acted_page m r) h d b n ≡ k
  unfolding Logged replay
  logged_is d b h zero k l = l
  logged_is d b h (suc n) k (i, l, gd, p) = rw (logged_is d b h n i l) (passes_acted i (d (b + n)) k p)

  logged_there : (d : Chip) (b : ℕ) (h : m.State) (n : ℕ) (k : m.State) → Logged m S R r d b h n k → (j : ℕ) → j < n → is_blank (d (b + j)) ≡ false
  unfolding Logged
  logged_there d b h zero k l j a = absurd (omega arith)
  logged_there d b h (suc n) k (i, l, gd, p) j a = elim (cases_eq j n) [ inl z ↦ (rw z (passes_there i (d (b + n)) k p)) | inr z ↦ logged_there d b h n i l j (omega arith) ]

  logged_grown : (d : Chip) (b : ℕ) (h : m.State) (n : ℕ) (k : m.State) → Logged m S R r d b h n k → length (r.checkpoint h) ≤ length (r.checkpoint k)
  unfolding Logged
  logged_grown d b h zero k l = rw l (omega arith)
  logged_grown d b h (suc n) k (i, l, gd, p) = let v = logged_grown d b h n i l in let z = passes_grown i (d (b + n)) k gd p in omega arith

  -- the longest log is far shorter than the ring
  pub bound : (d : Chip) (s : Journal m) (o : Page) → IsInUse m S R r d s o → s.used + 32 ≤ 16 * R
  bound d s o u = u.fits

  limit_in : (d : Chip) (s : Journal m) (o : Page) → IsInUse m S R r d s o → longest s.kept + 32 ≤ 16 * R
  limit_in d s o u = let a = short_rows u.was u.was_good in let b = u.pages_are in let v = longest_is s.kept in omega arith

  body_move : (d e : Chip) (s : Journal m) (o p : Page) → SameSlot s.slot d e → SameLog s d e → (p ≡ o) ⊎ Bare m S R r p → Body m S R r d s o → Body m S R r e s p
  body_move d e s o p t v z (in_use u) =
      let a = short_rows u.was u.was_good in
      in_use (record {
        committed_is = u.committed_is;
        was = u.was;
        was_good = u.was_good;
        committed = ap (commit_of m r) (t (base S s.slot) (omega arith) (omega arith)) ∙ u.committed;
        pages_are = u.pages_are;
        kept = rows_same d e (kept_at S s.slot) (rows_of m S R r u.was) (λ j b c. t j (omega arith) (omega arith)) u.kept;
        inside = u.inside;
        logged = logged_same (ring S R d) (ring S R e) s.begins u.was s.used s.state (λ k b. v (s.begins + k) (omega arith) (omega arith)) u.logged;
        clear = λ k b c. v k (omega arith) c ∙ u.clear k b c;
        fits = u.fits;
        stale = stale_move o p s.turn z u.stale;
      })
  body_move d e s o p t v z (unused u) =
      let a = short_rows m.initial w.good_new in
      unused (record { state_is = u.state_is; uncommitted = rw (t (base S s.slot) (omega arith) (omega arith)) u.uncommitted; other = bare_move o p z u.other })

  -- the other slot's commit record stays, or goes
  pub held_move : (d e : Chip) (s : Journal m) → SameSlot s.slot d e → SameLog s d e →
      (e (base S (not s.slot)) ≡ d (base S (not s.slot))) ⊎ Bare m S R r (e (base S (not s.slot))) → Held m S R r d s → Held m S R r e s
  held_move d e s t v z l = record { good = l.good; body = body_move d e s _ _ t v z l.body }

  -- a chip on which all but the ring is as it was, and the ring too if a slot is in use
  held_low : (d e : Chip) (s : Journal m) → ((j : ℕ) → j < 16 * (S + S) → e j ≡ d j) → (s.committed ≡ true → (j : ℕ) → e j ≡ d j) → Held m S R r d s → Held m S R r e s
  held_low d e s t v l = record { good = l.good; body = go l.body }
    where
      some_blocks : 16 ≤ 16 * S
      some_blocks = let a = short_rows m.initial w.good_new in omega arith

      go : Body m S R r d s (d (base S (not s.slot))) → Body m S R r e s (e (base S (not s.slot)))
      go (in_use u) = let q = fun_ext (v u.committed_is) in rw q (in_use u)
      go (unused u) =
          let a = in_slots S s.slot in let b = in_slots S (not s.slot) in let c = some_blocks in
          unused (record { state_is = u.state_is; uncommitted = rw (t (base S s.slot) (omega arith)) u.uncommitted; other = rw (t (base S (not s.slot)) (omega arith)) u.other })

  -- with the block ahead erased
  abbrev Ready : Chip → Journal m → Type 0
  Ready d s = (k : ℕ) → s.begins + s.used ≤ k → k < 16 * ((s.begins + s.used) / 16 + 2) → ring S R d k ≡ blank

  -- one more page in the log, with a call or spoilt
  push_page : (d e : Chip) (s : Journal m) (h2 : m.State) → r.Good h2 → suc s.used + 32 ≤ 16 * R → s.committed ≡ true → Ready d s →
      But d e (16 * (S + S) + place m S R r s) → Passes m S R r s.state (e (16 * (S + S) + place m S R r s)) h2 → Held m S R r d s → Held m S R r e (with_page m S R r s h2)
  unfolding Logged
  push_page d e s h2 gd lt sd rd but new l = record { good = gd; body = go l.body }
    where
      go : Body m S R r d s (d (base S (not s.slot))) → Body m S R r e (with_page m S R r s h2) (e (base S (not s.slot)))
      go (in_use u) =
          let a = short_rows u.was u.was_good in let b = bound d s _ u in let x1 = in_slots S s.slot in let x2 = in_slots S (not s.slot) in
          let off : (k : ℕ) → s.begins ≤ k → k < s.begins + 16 * R → (k ≡ s.begins + s.used → ⊥) → ring S R e k ≡ ring S R d k =
          λ k y z ne. rw (ring_is S R e k, ring_is S R d k) (but _ (apart_in S R s.begins s.used u.inside b k y z ne)) in
          in_use (record {
            committed_is = sd;
            was = u.was;
            was_good = u.was_good;
            committed = ap (commit_of m r) (but (base S s.slot) (omega arith)) ∙ u.committed;
            pages_are = u.pages_are;
            kept = rows_same d e (kept_at S s.slot) (rows_of m S R r u.was) (λ j y z. but j (omega arith)) u.kept;
            inside = u.inside;
            logged = (s.state, logged_same (ring S R d) (ring S R e) s.begins u.was s.used s.state (λ k y. off (s.begins + k) (omega arith) (omega arith) (omega arith)) u.logged, l.good, rw (ring_is S R e (s.begins + s.used)) new);
            clear = λ k y z. off k (omega arith) (omega arith) (omega arith) ∙ rd k (omega arith) (omega arith);
            fits = lt;
            stale = rw (but (base S (not s.slot)) (omega arith)) u.stale;
          })
      go (unused u) = let v = u.state_is in let z : ◌≡◌ {A = ℕ} 0 1 = cc in absurd (omega arith)

  -- a checkpoint
  module _ (d : Chip) (s : Journal m) (h2 : m.State) (gd : r.Good h2) (l : Held m S R r d s) (inside : place m S R r s < 16 * R)
      (blank-on : (k : ℕ) → place m S R r s ≤ k → k < 16 * ((place m S R r s + 15) / 16 + 1) → ring S R d k ≡ blank) where
    abbrev f : ℕ
    f = first S (not s.slot)

    abbrev rows : List (List ℕ)
    rows = rows_of m S R r h2

    abbrev commit : List ℕ
    commit = r.commit (up s.turn) (r.head h2) (place m S R r s)

    abbrev all_acts : List (Act A)
    all_acts = checkpoints m S R r (not s.slot) (up s.turn) h2 (place m S R r s)

    d1 : Chip
    d1 = done {A = A} d (wipe f)

    d2 : Chip
    d2 = all_done d1 (puts A f 0 rows)

    short : 16 + 0 + length rows ≤ 16 * S
    short = let a = short_rows h2 gd in omega arith

    -- the other slot and the ring are as they were, and the commit record's block is blank
    abbrev OffSlot : ℕ → Type 0
    OffSlot j = 16 * f ≤ j → j < 16 * f + 16 * S → ⊥

    d1_off : (j : ℕ) → OffSlot j → d1 j ≡ d j
    unfolding d1
    d1_off j o = let a = short in wiped_off A d f j (λ q. o (omega arith) (omega arith))

    d1_blank : (j : ℕ) → j / 16 ≡ f → d1 j ≡ blank
    unfolding d1
    d1_blank j q = wiped_in A d f j q

    d2_off : (j : ℕ) → OffSlot j → d2 j ≡ d j
    unfolding d2
    d2_off j o = puts_off A S f d1 0 rows j short (λ p q. o (omega arith) q) ∙ d1_off j o

    d2_blank : (j : ℕ) → j / 16 ≡ f → d2 j ≡ blank
    unfolding d2
    d2_blank j q = puts_off A S f d1 0 rows j short (omega arith) ∙ d1_blank j q

    rest : Rest f d1 0
    rest k a b = absurd (omega arith)

    d2_rows : RowsAt d2 (kept_at S (not s.slot)) rows
    unfolding d2
    d2_rows = let z : 16 * suc f + 0 ≡ 16 * suc f = omega arith in rw z at (puts_in A S f d1 0 rows short rest)

    ring_off : (k : ℕ) → OffSlot (16 * (S + S) + around (16 * R) k)
    ring_off k a b = let x2 = in_slots S (not s.slot) in absurd (omega arith)

    slot_off : (j : ℕ) → base S s.slot ≤ j → j < base S s.slot + 16 * S → OffSlot j
    slot_off j a b p q = let ap2 = apart S s.slot in absurd (omega arith)

    -- before the commit record is whole, all is as it was
    not_yet : (e : Chip) → ((j : ℕ) → OffSlot j → e j ≡ d j) → (e (16 * f) ≡ d (16 * f)) ⊎ Bare m S R r (e (16 * f)) → Held m S R r e s
    not_yet e t z = held_move d e s (λ j a b. t j (slot_off j a b)) (λ k a b. rw (ring_is S R e k, ring_is S R d k) (t _ (ring_off k))) z l

    first_torn : (e : Chip) → ((j : ℕ) → (e j ≡ d j) ⊎ ((j / 16 ≡ f) × ((e j ≡ blank) ⊎ (e j ≡ spoilt)))) → Held m S R r e s
    first_torn e t =
        not_yet e (λ j o. (let a = short in elim (t j) [ inl z ↦ z | inr (y, z) ↦ absurd (o (omega arith) (omega arith)) ])) (elim (t (16 * f)) [ inl z ↦ inl z | inr (y, z) ↦ inr z ])

    -- once it is, the other slot is in use
    moved : (e : Chip) → But d2 e (16 * f) → e (16 * f) ≡ has commit → Held m S R r e (with_checkpoint m S R r s h2)
    moved e but new = record {
      good = gd;
      body = in_use (record {
        committed_is = refl;
        was = h2;
        was_good = gd;
        committed = ap (commit_of m r) new ∙ w.uncommit_commit (up s.turn) h2 (place m S R r s) gd inside;
        pages_are = refl;
        kept = rows_same d2 e (kept_at S (not s.slot)) rows (λ j a b. but j (omega arith)) d2_rows;
        inside = inside;
        logged = unfold Logged in refl;
        clear = λ k a b. in_ring k ∙ blank-on k (omega arith) (omega arith);
        fits = omega arith;
        stale = rw (not_not s.slot) (was l.body);
      });
    }
      where
        in_ring : (k : ℕ) → ring S R e k ≡ ring S R d k
        in_ring k = let x2 = in_slots S (not s.slot) in let a = short in rw (ring_is S R e k, ring_is S R d k) (but _ (omega arith) ∙ d2_off _ (ring_off k))

        at_x : e (base S s.slot) ≡ d (base S s.slot)
        at_x = let ap2 = apart S s.slot in let a = short in but (base S s.slot) (omega arith) ∙ d2_off (base S s.slot) (slot_off (base S s.slot) (omega arith) (omega arith))

        was : Body m S R r d s (d (base S (not s.slot))) → Stale m S R r (e (base S s.slot)) (up s.turn)
        was (in_use u) = inr (record { turn = s.turn; head = r.head u.was; begins = s.begins }, ap (commit_of m r) at_x ∙ u.committed, refl)
        was (unused u) = inl (rw at_x u.uncommitted)

    abbrev Either : Chip → Type 0
    Either e = Held m S R r e s ⊎ Held m S R r e (with_checkpoint m S R r s h2)

    seal_torn : (e : Chip) (k : ℕ) → LeftAfter {A = A} d2 (write (16 * f) commit ∷ []) k e → Either e
    unfolding LeftAfter
    seal_torn e zero t = go (torn_write A d2 e (16 * f) commit (d2_blank (16 * f) (omega arith)) t)
      where
        go : LeftAt d2 (16 * f) commit e → Either e
        go (nothing z) = inl (not_yet e (λ j o. z j ∙ d2_off j o) (inr (inl (z (16 * f) ∙ d2_blank (16 * f) (omega arith)))))
        go (whole but new) = inr (moved e but new)
        go (part but new) = inl (not_yet e (λ j o. (let a = short in but j (λ q. o (omega arith) (omega arith))) ∙ d2_off j o) (inr (inr new)))
    seal_torn e (suc k) t = inr (moved e (λ j ne. t j ∙ written_but A d2 (16 * f) commit j ne) (t (16 * f) ∙ written_at A d2 (16 * f) commit (d2_blank (16 * f) (omega arith))))

    -- power fails while pages are put, or in the commit record
    late_torn : (e : Chip) (k : ℕ) → LeftAfter d1 (puts A f 0 rows ++ (write (16 * f) commit ∷ [])) k e → Either e
    unfolding d2
    late_torn e k t = go (left-++ d1 e (puts A f 0 rows) _ k t)
      where
        early : (i : ℕ) → LeftAfter d1 (puts A f 0 rows) i e → Held m S R r e s
        early i v =
            let o = puts_torn A S f d1 e 0 rows i v in
            not_yet e (λ j y. o j short (λ p q. y (omega arith) q) ∙ d1_off j y) (inr (inl (o (16 * f) short (omega arith) ∙ d1_blank (16 * f) (omega arith))))

        go : LeftAfter d1 (puts A f 0 rows) k e ⊎ ((i : ℕ) × LeftAfter {A = A} d2 (write (16 * f) commit ∷ []) i e) → Either e
        go (inl v) = inl (early k v)
        go (inr (i, v)) = seal_torn e i v

    checkpoint_torn : (e : Chip) (k : ℕ) → LeftAfter d all_acts k e → Either e
    unfolding LeftAfter Torn d1
    checkpoint_torn e zero t = inl (first_torn e t)
    checkpoint_torn e (suc k) t = late_torn e k t

    checkpoint_done : Held m S R r (all_done d all_acts) (with_checkpoint m S R r s h2)
    unfolding all_done d1 d2
    checkpoint_done =
        let eq : all_done d all_acts ≡ done {A = A} d2 (write (16 * f) commit) = all-done-++ d1 (puts A f 0 rows) _ in
        subst (λ z. Held m S R r z (with_checkpoint m S R r s h2)) (sym eq) (moved _ (written_but A d2 (16 * f) commit) (written_at A d2 (16 * f) commit (d2_blank (16 * f) (omega arith))))

    seal_careful : careful {A = A} nb d2 (write (16 * f) commit ∷ []) ≡ true
    unfolding careful is_blank
    seal_careful = let c = in_slots S (not s.slot) in let a = short in rw (lt-ltb (16 * f) (16 * nb) (omega arith), d2_blank (16 * f) (omega arith), w.commit_whole (up s.turn) h2 (place m S R r s) gd)

    checkpoint_careful : careful nb d all_acts ≡ true
    unfolding careful d1 d2
    checkpoint_careful =
        let c = in_slots S (not s.slot) in let a = short in
        and_from _ _ (lt-ltb f nb (omega arith))
        (careful-++ nb d1 (puts A f 0 rows) _ (puts_careful A S f d1 0 nb rows (omega arith) short rest (rows_whole (r.checkpoint h2) (w.checkpoint_fine h2 gd))) seal_careful)

    checkpoint_rises : Rising d all_acts
    unfolding Rising d1 d2
    checkpoint_rises = rising-++ d1 (puts A f 0 rows) _ (puts_rise A S f d1 0 rows rest) ((λ j a b. d2_blank j (omega arith)), tt)

  pub later_up : (t : Turn) → later (up t) t ≡ true
  later_up one = refl
  later_up two = refl
  later_up three = refl

  pub later_down : (t : Turn) → later t (up t) ≡ false
  later_down one = refl
  later_down two = refl
  later_down three = refl

  -- the scan finds the log's end
  pub found_end : (d : Chip) (s : Journal m) (o : Page) → IsInUse m S R r d s o → scan (ring S R d) s.begins (16 * R) ≡ s.used
  found_end d s o u =
      let b = bound d s o u in
      scan_log (16 * R) (ring S R d) s.begins s.used (omega arith) (logged_there (ring S R d) s.begins u.was s.used s.state u.logged) (λ lt. u.clear (s.begins + s.used) (omega arith) (omega arith))

  pub pages_kept : (d : Chip) (s : Journal m) (o : Page) (u : IsInUse m S R r d s o) → r.pages (r.head u.was) ≡ s.kept
  pages_kept d s o u = w.checkpoint_pages u.was ∙ sym (length_rows (r.checkpoint u.was)) ∙ u.pages_are

  -- the checkpoint comes to the state that was
  pub comes_was : (d : Chip) (s : Journal m) (o : Page) (u : IsInUse m S R r d s o) → replay (acted_page m r) (r.opened (r.head u.was)) d (kept_at S s.slot) s.kept ≡ u.was
  comes_was d s o u =
      subst (λ k. replay (acted_page m r) (r.opened (r.head u.was)) d (kept_at S s.slot) k ≡ u.was) u.pages_are
      (replay_rows d (r.opened (r.head u.was)) (kept_at S s.slot) (r.checkpoint u.was) (w.checkpoint_fine u.was u.was_good) u.kept ∙ w.checkpoint_is u.was u.was_good)

  abbrev pub its_seal : (d : Chip) (s : Journal m) (o : Page) → IsInUse m S R r d s o → Commit r.Head
  its_seal d s o u = record { turn = s.turn; head = r.head u.was; begins = s.begins }

  found : (d : Chip) (s : Journal m) (o : Page) (u : IsInUse m S R r d s o) → journal_read m S R r d s.slot (its_seal d s o u) ≡ s
  found d s o u = rw (found_end d s o u, pages_kept d s o u, comes_was d s o u, logged_is (ring S R d) s.begins u.was s.used s.state u.logged, ← u.committed_is)

  pub woken : (d : Chip) (s : Journal m) (x : Bool) → s.slot ≡ x → Body m S R r d s (d (base S (not x))) → (journal_program m S R r).start d ≡ s
  woken d s true e (in_use u) = go u.stale
    where
      sl : commit_of m r (d (base S true)) ≡ some (its_seal d s _ u)
      sl = rw e at u.committed

      fd : journal_read m S R r d true (its_seal d s _ u) ≡ s
      fd = subst (λ x. journal_read m S R r d x (its_seal d s _ u) ≡ s) e (found d s _ u)

      go : Stale m S R r (d (base S false)) s.turn → (journal_program m S R r).start d ≡ s
      go (inl z) = rw (bare_none (d (base S false)) z, sl) fd
      go (inr (t, z, v)) = rw (z, sl, ← v, later_up t.turn, v) fd
  woken d s false e (in_use u) = go u.stale
    where
      sl : commit_of m r (d (base S false)) ≡ some (its_seal d s _ u)
      sl = rw e at u.committed

      fd : journal_read m S R r d false (its_seal d s _ u) ≡ s
      fd = subst (λ x. journal_read m S R r d x (its_seal d s _ u) ≡ s) e (found d s _ u)

      go : Stale m S R r (d (base S true)) s.turn → (journal_program m S R r).start d ≡ s
      go (inl z) = rw (bare_none (d (base S true)) z, sl) fd
      go (inr (t, z, v)) = rw (z, sl, ← v, later_down t.turn, v) fd
  woken d s true e (unused u) = rw (bare_none (d (base S false)) u.other, bare_none (d (base S true)) (rw e at u.uncommitted)) (sym u.state_is)
  woken d s false e (unused u) = let y = u.state_is in let z : ◌≡◌ {A = ℕ} 0 1 = cc in absurd (omega arith)

  abbrev Running : Chip → Journal m → m.State → Type 0
  Running d s h = (s.state ≡ h) × Held m S R r d s × (s.used ≤ longest s.kept)

  wake : (d : Chip) (h : m.State) → SlotsHold m S R r d h → Running d ((journal_program m S R r).start d) h
  wake d h (s, e, l, b) = rw (woken d s s.slot refl l.body) (e, l, b)

  pub fresh_chip : (d : Chip) → ((k : ℕ) → d k ≡ blank) → SlotsHold m S R r d m.initial
  fresh_chip d b = (never_used m S R r, refl, record { good = w.good_new; body = unused (record { state_is = refl; uncommitted = inl (b (base S true)); other = inl (b (base S false)) }) }, omega arith)

  -- the ring's first two blocks, erased on a chip that was never used
  opens_low : (b : Bool) (d : Chip) (j : ℕ) → j < 16 * (S + S) → all_done d (opens m S R r b) j ≡ d j
  unfolding all_done
  opens_low true d j a = refl
  opens_low false d j a = wiped_off A (done {A = A} d (wipe (S + S))) (suc (S + S)) j (omega arith) ∙ wiped_off A d (S + S) j (omega arith)

  opens_left : (b : Bool) (d e : Chip) (k : ℕ) → LeftAfter d (opens m S R r b) k e → (j : ℕ) → j < 16 * (S + S) → e j ≡ d j
  unfolding LeftAfter Torn
  opens_left true d e k t j a = t j
  opens_left false d e zero t j a = elim (t j) [ inl z ↦ z | inr (y, z) ↦ absurd (omega arith) ]
  opens_left false d e (suc zero) t j a = elim (t j) [ inl z ↦ (z ∙ wiped_off A d (S + S) j (omega arith)) | inr (y, z) ↦ absurd (omega arith) ]
  opens_left false d e (suc (suc k)) t j a = t j ∙ wiped_off A (done {A = A} d (wipe (S + S))) (suc (S + S)) j (omega arith) ∙ wiped_off A d (S + S) j (omega arith)

  opens_none : (b : Bool) → b ≡ true → opens m S R r b ≡ []
  opens_none b e = rw e

  pub opens_silent : (b : Bool) → said (opens m S R r b) ≡ []
  unfolding said
  opens_silent true = refl
  opens_silent false = refl

  opens_careful : (b : Bool) (d : Chip) → careful nb d (opens m S R r b) ≡ true
  unfolding careful
  opens_careful true d = refl
  opens_careful false d = and_from _ _ (lt-ltb (S + S) nb (omega arith)) (and_from _ _ (lt-ltb (suc (S + S)) nb (omega arith)) refl)

  opens_rise : (b : Bool) (d : Chip) → Rising d (opens m S R r b)
  unfolding Rising
  opens_rise true d = tt
  opens_rise false d = tt

  opens_held : (d : Chip) (s : Journal m) → Held m S R r d s → Held m S R r (all_done d (opens m S R r s.committed)) s
  unfolding all_done
  opens_held d s l = held_low d _ s (opens_low s.committed d) (λ e j. ap (λ xs. all_done d xs j) (opens_none s.committed e)) l

  opens_torn : (d e : Chip) (s : Journal m) (k : ℕ) → LeftAfter d (opens m S R r s.committed) k e → Held m S R r d s → Held m S R r e s
  unfolding LeftAfter
  opens_torn d e s k t l = held_low d e s (opens_left s.committed d e k t) (λ q. subst (λ xs. LeftAfter d xs k e) (opens_none s.committed q) t) l

  -- where the new log begins is in the ring, and the block is blank from there on
  new_inside : (d : Chip) (s : Journal m) (o : Page) → Body m S R r d s o → place m S R r s < 16 * R
  new_inside d s o (in_use u) = place_in S R s.begins s.used u.inside (bound d s o u)
  new_inside d s o (unused u) = let v = around_is (16 * R) (s.begins + s.used) in let a = ap (λ t. t.begins) u.state_is in let b = ap (λ t. t.used) u.state_is in omega arith

  new_blank : (d : Chip) (s : Journal m) (o : Page) → Body m S R r d s o → (k : ℕ) → place m S R r s ≤ k → k < 16 * ((place m S R r s + 15) / 16 + 1) → ring S R (all_done d (opens m S R r s.committed)) k ≡ blank
  unfolding all_done
  new_blank d s o (in_use u) k a b = rw (opens_none s.committed u.committed_is) go
    where
      few : s.used + 32 ≤ 16 * R
      few = bound d s o u

      go : ring S R d k ≡ blank
      go =
          elim (around_is (16 * R) (s.begins + s.used)) [
            | inl (y, z) ↦ u.clear k (omega arith) (omega arith)
            | inr (y, z) ↦ (let i = u.inside in let v = around_is (16 * R) k in let t = around_is (16 * R) (k + 16 * R) in let f = few in
                let same : around (16 * R) k ≡ around (16 * R) (k + 16 * R) = omega arith in
                ring_is S R d k ∙ ap (λ n. d (16 * (S + S) + n)) same ∙ sym (ring_is S R d (k + 16 * R)) ∙ u.clear (k + 16 * R) (omega arith) (omega arith))
          ]
  new_blank d s o (unused u) k a b =
      let v = around_is (16 * R) (s.begins + s.used) in let t = around_is (16 * R) k in let x = ap (λ t. t.begins) u.state_is in let y = ap (λ t. t.used) u.state_is in
      rw (ap (λ t. t.committed) u.state_is)
      (ring_is S R (done {A = A} (done {A = A} d (wipe (S + S))) (wipe (suc (S + S)))) k ∙ wiped_off A (done {A = A} d (wipe (S + S))) (suc (S + S)) _ (omega arith) ∙ wiped_in A d (S + S) _ (omega arith))

  room_is : (s : Journal m) → has_room m S R r s ≡ true → (s.committed ≡ true) × (s.used < longest s.kept)
  room_is s e = let both = and_parts s.committed (ltb s.used (longest s.kept)) e in (both.0, ltb-true s.used (longest s.kept) both.1)

  pub in_use_of : (d : Chip) (s : Journal m) (o : Page) → s.committed ≡ true → Body m S R r d s o → IsInUse m S R r d s o
  in_use_of d s o e (in_use u) = u
  in_use_of d s o e (unused u) = let v = u.state_is in let z : ◌≡◌ {A = ℕ} 0 1 = cc in absurd (omega arith)

  -- one call, by whether it changes something and whether there is room
  module _ (d : Chip) (s : Journal m) (c : C) (l : Held m S R r d s) (ok : m.readable c ≡ true) where
    abbrev h2 : m.State
    h2 = m.after s.state c

    abbrev line : List ℕ
    line = r.row (r.call c)

    abbrev k0 : ℕ
    k0 = place m S R r s

    abbrev b0 : ℕ
    b0 = next_block S R k0

    abbrev page : ℕ
    page = 16 * (S + S) + k0

    abbrev full : List (Act A)
    full = opens m S R r s.committed ++ checkpoints m S R r (not s.slot) (up s.turn) h2 k0

    abbrev way : Bool → Bool → List (Act A)
    way b1 b2 = pick b1 (pick b2 (logs m S R r k0 line) full) []

    abbrev goal : Bool → Bool → Journal m
    goal b1 b2 = pick b1 (pick b2 (with_page m S R r s h2) (with_checkpoint m S R r s h2)) s

    good2 : r.Good h2
    good2 = w.good_after s.state c l.good ok

    -- the chip with the block ahead erased
    da : Chip
    da = all_done d (ahead A k0 b0)

    module _ (sd : s.committed ≡ true) where
      it : IsInUse m S R r d s (d (base S (not s.slot)))
      it = in_use_of d s _ sd l.body

      few : s.used + 32 ≤ 16 * R
      few = bound d s _ it

      -- all that the erase ahead leaves, done or torn, holds the same
      ahead_held : (e : Chip) → ((j : ℕ) → Away A k0 b0 j → e j ≡ d j) → Held m S R r e s
      ahead_held e t =
          let x1 = in_slots S s.slot in let x2 = in_slots S (not s.slot) in let md = place_mod S R s.begins s.used it.inside few in let fw = few in let i = it.inside in
          held_move d e s (λ j a b. t j (omega arith))
          (λ k a b. rw (ring_is S R e k, ring_is S R d k) (t _ (λ z q. (let v = miss S R s.begins s.used it.inside few k a (omega arith) (omega arith) q in absurd (omega arith)))))
          (inl (t (base S (not s.slot)) (let g = short_rows it.was it.was_good in omega arith))) l

      da_held : Held m S R r da s
      unfolding da
      da_held = ahead_held da (ahead_off A d k0 b0)

      da_ready : Ready da s
      unfolding da
      da_ready k a b =
          let md = place_mod S R s.begins s.used it.inside few in let fw = few in
          rw (ring_is S R (all_done d (ahead A k0 b0)) k)
          (elim (cases_eq (k0 % 16) 0) [
            | inl z ↦ elim (cases_eq (k / 16) (suc ((s.begins + s.used) / 16))) [
              | inl q ↦ ahead_in A d k0 b0 _ z (hit S R s.begins s.used it.inside few k (omega arith) q)
              | inr q ↦ (ahead_off A d k0 b0 _ (λ y v. q (miss S R s.begins s.used it.inside few k (omega arith) (omega arith) (omega arith) v)) ∙ sym (ring_is S R d k) ∙ it.clear k a (omega arith))
            ]
            | inr z ↦ (ahead_off A d k0 b0 _ (λ y v. z y) ∙ sym (ring_is S R d k) ∙ it.clear k a (omega arith))
          ])

      da_blank : da page ≡ blank
      da_blank = sym (ring_is S R da (s.begins + s.used)) ∙ da_ready (s.begins + s.used) (omega arith) (omega arith)

      -- the pages after it in its block
      da_after : (j : ℕ) → page < j → j / 16 ≡ page / 16 → da j ≡ blank
      da_after j a b =
          let v = around_is (16 * R) (s.begins + s.used) in let fw = few in let i = it.inside in
          let t = around_is (16 * R) ((s.begins + s.used) + (j - page)) in
          let z : j ≡ 16 * (S + S) + around (16 * R) ((s.begins + s.used) + (j - page)) = omega arith in
          rw z (sym (ring_is S R da ((s.begins + s.used) + (j - page))) ∙ da_ready ((s.begins + s.used) + (j - page)) (omega arith) (omega arith))

    -- one more page in the log, if the ring has room for it
    abbrev More : Type 0
    More = suc s.used + 32 ≤ 16 * R

    pushed : (e : Chip) → r.changes s.state c ≡ true → s.committed ≡ true → More → But da e page → e page ≡ has line → Held m S R r e (with_page m S R r s h2)
    pushed e ch sd mr but new = push_page da e s h2 good2 mr sd (da_ready sd) but (inr (c, ok, ch, new, refl)) (da_held sd)

    pub logs_care : r.changes s.state c ≡ true → s.committed ≡ true → careful nb d (logs m S R r k0 line) ≡ true
    unfolding da
    logs_care ch sd =
        let u = it sd in let fw = few sd in
        let a = block_in S R s.begins s.used u.inside fw in let b = place_in S R s.begins s.used u.inside fw in
        put_careful A d k0 b0 page nb line (omega arith) (omega arith) (da_blank sd) (w.row_whole (r.call c) (w.fine_call s.state c ok ch))

    pub logs_rise : s.committed ≡ true → Rising d (logs m S R r k0 line)
    unfolding da
    logs_rise sd = put_rises A d k0 b0 page line (da_after sd)

    pub logs_held : r.changes s.state c ≡ true → s.committed ≡ true → More → Held m S R r (all_done d (logs m S R r k0 line)) (with_page m S R r s h2)
    unfolding da
    logs_held ch sd mr = rw (put_is A d k0 b0 page line) (pushed (done {A = A} da (write page line)) ch sd mr (written_but A da page line) (written_at A da page line (da_blank sd)))

    pub logs_new : s.committed ≡ true → all_done d (logs m S R r k0 line) page ≡ has line
    unfolding da
    logs_new sd = rw (put_is A d k0 b0 page line) (written_at A da page line (da_blank sd))

    -- power fails in it: no page, a spoilt one, or the page
    abbrev pub LeftOfLog : Chip → Type 0
    LeftOfLog e = Held m S R r e s ⊎ (Held m S R r e (with_page m S R r s s.state) ⊎ Held m S R r e (with_page m S R r s h2))

    pub logs_left : (e : Chip) (k : ℕ) → r.changes s.state c ≡ true → s.committed ≡ true → More → LeftAfter d (logs m S R r k0 line) k e → LeftOfLog e
    unfolding LeftAfter da
    logs_left e k ch sd mr t = go (left-++ d e (ahead A k0 b0) _ k t)
      where
        left : LeftAt da page line e → LeftOfLog e
        left (nothing same) = inl (rw (fun_ext same) (da_held sd))
        left (whole but new) = inr (inr (pushed e ch sd mr but new))
        left (part but new) = inr (inl (push_page da e s s.state l.good mr sd (da_ready sd) but (inl (new, refl)) (da_held sd)))

        last : (i : ℕ) → LeftAfter {A = A} da (write page line ∷ []) i e → LeftOfLog e
        last zero v = left (torn_write A da e page line (da_blank sd) v)
        last (suc i) v = inr (inr (pushed e ch sd mr (λ j ne. v j ∙ written_but A da page line j ne) (v page ∙ written_at A da page line (da_blank sd))))

        go : LeftAfter d (ahead A k0 b0) k e ⊎ ((i : ℕ) × LeftAfter {A = A} da (write page line ∷ []) i e) → LeftOfLog e
        go (inl v) = inl (ahead_held sd e (ahead_torn A d e k0 b0 k v))
        go (inr (i, v)) = last i v

    -- a checkpoint in the place of a page
    pub full_care : careful nb d full ≡ true
    full_care =
        careful-++ nb d (opens m S R r s.committed) _ (opens_careful s.committed d)
        (checkpoint_careful (all_done d (opens m S R r s.committed)) s h2 good2 (opens_held d s l) (new_inside d s _ l.body) (new_blank d s _ l.body))

    pub full_rises : Rising d full
    full_rises =
        rising-++ d (opens m S R r s.committed) _ (opens_rise s.committed d)
        (checkpoint_rises (all_done d (opens m S R r s.committed)) s h2 good2 (opens_held d s l) (new_inside d s _ l.body) (new_blank d s _ l.body))

    pub full_held : Held m S R r (all_done d full) (with_checkpoint m S R r s h2)
    full_held =
        rw (all-done-++ d (opens m S R r s.committed) (checkpoints m S R r (not s.slot) (up s.turn) h2 k0))
        (checkpoint_done (all_done d (opens m S R r s.committed)) s h2 good2 (opens_held d s l) (new_inside d s _ l.body) (new_blank d s _ l.body))

    pub full_left : (e : Chip) (k : ℕ) → LeftAfter d full k e → Held m S R r e s ⊎ Held m S R r e (with_checkpoint m S R r s h2)
    full_left e k t = go (left-++ d e (opens m S R r s.committed) _ k t)
      where
        go : LeftAfter d (opens m S R r s.committed) k e ⊎ ((i : ℕ) × LeftAfter (all_done d (opens m S R r s.committed)) (checkpoints m S R r (not s.slot) (up s.turn) h2 k0) i e) →
            Held m S R r e s ⊎ Held m S R r e (with_checkpoint m S R r s h2)
        go (inl v) = inl (opens_torn d e s k v l)
        go (inr (i, v)) = checkpoint_torn (all_done d (opens m S R r s.committed)) s h2 good2 (opens_held d s l) (new_inside d s _ l.body) (new_blank d s _ l.body) e i v

    one_more : (s.committed ≡ true) × (s.used < longest s.kept) → More
    one_more lt = let a = limit_in d s _ (it lt.0) in let b = lt.1 in omega arith

    way_care : (b1 b2 : Bool) → r.changes s.state c ≡ b1 → has_room m S R r s ≡ b2 → careful nb d (way b1 b2) ≡ true
    unfolding careful
    way_care true true ch p = logs_care ch (room_is s p).0
    way_care true false ch p = full_care
    way_care false b2 ch p = refl

    way_rises : (b1 b2 : Bool) → r.changes s.state c ≡ b1 → has_room m S R r s ≡ b2 → Rising d (way b1 b2)
    unfolding Rising
    way_rises true true ch p = logs_rise (room_is s p).0
    way_rises true false ch p = full_rises
    way_rises false b2 ch p = tt

    way_goes : (b1 b2 : Bool) → s.used ≤ longest s.kept → r.changes s.state c ≡ b1 → has_room m S R r s ≡ b2 →
        ((goal b1 b2).state ≡ h2) × Held m S R r (all_done d (way b1 b2)) (goal b1 b2) × ((goal b1 b2).used ≤ longest (goal b1 b2).kept)
    unfolding all_done
    way_goes true true brief ch p = let lt = room_is s p in (refl, logs_held ch lt.0 (one_more lt), lt.1)
    way_goes true false brief ch p = (refl, full_held, omega arith)
    way_goes false b2 brief ch p = (sym (w.same s.state c ch), l, brief)

    abbrev EitherWay : Chip → Type 0
    EitherWay e = SlotsHold m S R r e s.state ⊎ SlotsHold m S R r e h2

    way_torn : (e : Chip) (k : ℕ) (b1 b2 : Bool) → s.used ≤ longest s.kept → r.changes s.state c ≡ b1 → has_room m S R r s ≡ b2 → LeftAfter d (way b1 b2) k e → EitherWay e
    unfolding LeftAfter
    way_torn e k true true brief ch p t =
        let lt = room_is s p in
        elim (logs_left e k ch lt.0 (one_more lt) t) [
          | inl v ↦ inl (s, refl, v, brief)
          | inr (inl v) ↦ inl (with_page m S R r s s.state, refl, v, lt.1)
          | inr (inr v) ↦ inr (with_page m S R r s h2, refl, v, lt.1)
        ]
    way_torn e k true false brief ch p t = elim (full_left e k t) [ inl v ↦ inl (s, refl, v, brief) | inr v ↦ inr (with_checkpoint m S R r s h2, refl, v, omega arith) ]
    way_torn e k false b2 brief ch p t = inl (s, refl, rw (fun_ext t) l, brief)

  pub full_silent : (b x : Bool) (g : Turn) (h : m.State) (p : ℕ) → said (opens m S R r b ++ checkpoints m S R r x g h p) ≡ []
  unfolding said
  full_silent b x g h p =
      said-++ (opens m S R r b) (checkpoints m S R r x g h p) ∙ rw (opens_silent b) (said-++ (puts A (first S x) 0 (rows_of m S R r h)) _ ∙ rw (puts_silent A S (first S x) 0 (rows_of m S R r h)))

  quiet_silent : (s : Journal m) (c : C) (b1 b2 : Bool) →
      said (pick b1 (pick b2 (logs m S R r (place m S R r s) (r.row (r.call c))) (opens m S R r s.committed ++ checkpoints m S R r (not s.slot) (up s.turn) (m.after s.state c) (place m S R r s))) []) ≡ []
  unfolding said
  quiet_silent s c true true = put_silent A (place m S R r s) (next_block S R (place m S R r s)) (16 * (S + S) + place m S R r s) (r.row (r.call c))
  quiet_silent s c true false = full_silent s.committed (not s.slot) (up s.turn) (m.after s.state c) (place m S R r s)
  quiet_silent s c false b2 = refl

  pub slot_steps : Steps m nb (journal_program m S R r)
  slot_steps = record {
    Holds = SlotsHold m S R r;
    Runs = Running;
    quiet = journal_quiet m S R r;
    silent = λ s c. quiet_silent s c (r.changes s.state c) (has_room m S R r s);
    fresh = fresh_chip;
    wakes = wake;
    rests = λ d s h run. (s, run.0, run.1, run.2);
    shape = λ d s h c run g. rw run.0;
    cares = λ d s h c run g. way_care d s c run.1 g (r.changes s.state c) (has_room m S R r s) refl refl;
    goes_on = λ d s h c run g.
        let both = way_goes d s c run.1 g (r.changes s.state c) (has_room m S R r s) run.2 refl refl in
        (both.0 ∙ ap (λ z. m.after z c) run.0, both.1, both.2);
    torn = λ d e s h c k run g t.
        subst (λ z. SlotsHold m S R r e z ⊎ SlotsHold m S R r e (m.after z c)) run.0 (way_torn d s c run.1 g e k (r.changes s.state c) (has_room m S R r s) run.2 refl refl t);
  }

  pub slots : IsMachine m nb (journal_program m S R r) (ReadsBy m (SlotsHold m S R r))
  unfolding slot_steps
  slots = steps_suffice m nb (journal_program m S R r) slot_steps

  pub in_order : InOrder m S R r
  unfolding slot_steps
  in_order d h cs hold ok =
      run_rises m nb (journal_program m S R r) slot_steps (λ d s h c run g. way_rises d s c run.1 g (r.changes s.state c) (has_room m S R r s) refl refl) d ((journal_program m S R r).start d) h cs (wake d h hold) ok

  -- a start looks at few pages
  length_pages : (f : ℕ → ℕ) (xs : List ℕ) → length (map f xs) ≡ length xs
  length_pages f [] = refl
  length_pages f (x ∷ xs) = ap suc (length_pages f xs)

  abbrev pub LooksFew : Journal m → List ℕ → Type 0
  LooksFew s js = (length js ≤ length (r.checkpoint s.state) + s.used + 1) × (s.kept ≤ length (r.checkpoint s.state)) × (s.used + 32 ≤ 16 * R)

  few_in : (d : Chip) (s : Journal m) (o : Page) (u : IsInUse m S R r d s o) (x : Bool) → LooksFew s (looks_slot m S R r d x (its_seal d s o u))
  few_in d s o u x =
      let a = scanned_few (16 * R) (ring S R d) s.begins in let e = found_end d s o u in
      let v = logged_grown (ring S R d) s.begins u.was s.used s.state u.logged in let y = u.pages_are in let z = length_rows (r.checkpoint u.was) in
      let p = pages_many (kept_at S x) (r.pages (r.head u.was)) in let q = pages_kept d s o u in
      let t = length_pages (ring_page S R) (scanned (ring S R d) s.begins (16 * R)) in
      (rw (length-append (pages_from (kept_at S x) (r.pages (r.head u.was))) (map (ring_page S R) (scanned (ring S R d) s.begins (16 * R)))) (omega arith), omega arith, u.fits)

  pub looks_few : (d : Chip) (s : Journal m) (x : Bool) → s.slot ≡ x → Body m S R r d s (d (base S (not x))) → LooksFew s (looks_in m S R r d (commit_of m r (d (base S false))) (commit_of m r (d (base S true))))
  looks_few d s true e (in_use u) = go u.stale
    where
      sl : commit_of m r (d (base S true)) ≡ some (its_seal d s _ u)
      sl = rw e at u.committed

      go : Stale m S R r (d (base S false)) s.turn → LooksFew s (looks_in m S R r d (commit_of m r (d (base S false))) (commit_of m r (d (base S true))))
      go (inl z) = rw (bare_none (d (base S false)) z, sl) (few_in d s _ u true)
      go (inr (t, z, v)) = rw (z, sl, ← v, later_up t.turn) (few_in d s _ u true)
  looks_few d s false e (in_use u) = go u.stale
    where
      sl : commit_of m r (d (base S false)) ≡ some (its_seal d s _ u)
      sl = rw e at u.committed

      go : Stale m S R r (d (base S true)) s.turn → LooksFew s (looks_in m S R r d (commit_of m r (d (base S false))) (commit_of m r (d (base S true))))
      go (inl z) = rw (bare_none (d (base S true)) z, sl) (few_in d s _ u false)
      go (inr (t, z, v)) = rw (z, sl, ← v, later_down t.turn) (few_in d s _ u false)
  looks_few d s true e (unused u) =
      let a = short_rows m.initial w.good_new in
      let k = ap (λ t. t.kept) u.state_is in let n = ap (λ t. t.used) u.state_is in
      rw (bare_none (d (base S false)) u.other, bare_none (d (base S true)) (rw e at u.uncommitted)) (omega arith, omega arith, omega arith)
  looks_few d s false e (unused u) = let y = u.state_is in let z : ◌≡◌ {A = ℕ} 0 1 = cc in absurd (omega arith)

  -- and at no others
  all_parts : (P : ℕ → Type 0) (xs ys : List ℕ) → AllOf P (xs ++ ys) → AllOf P xs × AllOf P ys
  unfolding AllOf
  all_parts P [] ys a = (tt, a)
  all_parts P (x ∷ xs) ys a = let v = all_parts P xs ys a.1 in ((a.0, v.0), v.1)

  in_ring_all : (d e : Chip) (ks : List ℕ) → AllOf (λ j. e j ≡ d j) (map (ring_page S R) ks) → AllOf (λ k. ring S R e k ≡ ring S R d k) ks
  unfolding AllOf ring
  in_ring_all d e [] a = tt
  in_ring_all d e (k ∷ ks) a = (a.0, in_ring_all d e ks a.1)

  state_same : (d e : Chip) (x : Bool) (s : Commit r.Head) → AllOf (λ j. e j ≡ d j) (looks_slot m S R r d x s) → journal_read m S R r e x s ≡ journal_read m S R r d x s
  state_same d e x s a =
      let both = all_parts (λ j. e j ≡ d j) (pages_from (kept_at S x) (r.pages s.head)) _ a in
      let v = scanned_same (16 * R) (ring S R d) (ring S R e) s.begins (in_ring_all d e _ both.1) in
      rw (
        v.0,
        replay_same (acted_page m r) (r.opened s.head) d e (kept_at S x) (r.pages s.head) (pages_each (λ j. e j ≡ d j) (kept_at S x) (r.pages s.head) both.0),
        replay_same (acted_page m r) (replay (acted_page m r) (r.opened s.head) d (kept_at S x) (r.pages s.head)) (ring S R d) (ring S R e) s.begins (scan (ring S R d) s.begins (16 * R)) v.1,
      )

  start_same : (d e : Chip) (o p : Option (Commit r.Head)) → AllOf (λ j. e j ≡ d j) (looks_in m S R r d o p) → journal_start m S R r e o p ≡ journal_start m S R r d o p
  start_same d e none none a = refl
  start_same d e none (some t) a = state_same d e true t a
  start_same d e (some s) none a = state_same d e false s a
  start_same d e (some s) (some t) a0 = go (later t.turn s.turn) a0
    where
      go : (b : Bool) → AllOf (λ j. e j ≡ d j) (pick b (looks_slot m S R r d true t) (looks_slot m S R r d false s)) →
          pick b (journal_read m S R r e true t) (journal_read m S R r e false s) ≡ pick b (journal_read m S R r d true t) (journal_read m S R r d false s)
      go true a = state_same d e true t a
      go false a = state_same d e false s a

  pub starts_fast : StartsFast m S R r
  unfolding AllOf
  starts_fast = record {
    few = λ d h (s, e, l, bf).
        (let v = looks_few d s s.slot refl l.body in let l1 = longest_is s.kept in let l2 = longest_is (length (r.checkpoint s.state)) in rw (← e) (omega arith));
    no_more = λ d e a. rw (a.0, a.1.0) (start_same d e (commit_of m r (d (base S false))) (commit_of m r (d (base S true))) a.1.1);
  }

  -- a call does few acts
  log_few : (k : ℕ) (bs : List ℕ) (a : A) → (writes (logs m S R r k bs ++ (say a ∷ [])) ≤ 1) × (wipes (logs m S R r k bs ++ (say a ∷ [])) ≤ 1)
  unfolding writes wipes
  log_few k bs a =
      let u = put_writes A k (next_block S R k) (16 * (S + S) + k) bs (say a ∷ []) in let v = put_wipes A k (next_block S R k) (16 * (S + S) + k) bs (say a ∷ []) in (omega arith, omega arith)

  full_few : (b y : Bool) (g : Turn) (h : m.State) (p : ℕ) (a : A) →
      let n : ℕ = length (r.checkpoint h) in
      (writes ((opens m S R r b ++ checkpoints m S R r y g h p) ++ (say a ∷ [])) ≤ suc n) × (wipes ((opens m S R r b ++ checkpoints m S R r y g h p) ++ (say a ∷ [])) ≤ suc ((n + 15) / 16) + pick b 0 2)
  unfolding writes wipes
  full_few b y g h p a = go b
    where
      rest : List (Act A)
      rest = write (base S y) (r.commit g (r.head h) p) ∷ []

      pages : List (Act A)
      pages = puts A (first S y) 0 (rows_of m S R r h)

      u : writes ((pages ++ rest) ++ (say a ∷ [])) ≡ suc (length (r.checkpoint h))
      u = let v = puts_writes A S (first S y) 0 (rows_of m S R r h) (rest ++ (say a ∷ [])) in let z = length_rows (r.checkpoint h) in rw (append_assoc pages rest (say a ∷ [])) (omega arith)

      t : wipes ((pages ++ rest) ++ (say a ∷ [])) ≡ (length (r.checkpoint h) + 15) / 16
      t = let v = puts_wipes A S (first S y) 0 (rows_of m S R r h) (rest ++ (say a ∷ [])) in let z = length_rows (r.checkpoint h) in rw (append_assoc pages rest (say a ∷ [])) (omega arith)

      go : (b : Bool) →
          (writes ((opens m S R r b ++ checkpoints m S R r y g h p) ++ (say a ∷ [])) ≤ suc (length (r.checkpoint h)))
          × (wipes ((opens m S R r b ++ checkpoints m S R r y g h p) ++ (say a ∷ [])) ≤ suc ((length (r.checkpoint h) + 15) / 16) + pick b 0 2)
      go true = (omega (arith, u), omega (arith, t))
      go false = (omega (arith, u), omega (arith, t))

  pub few_acts : FewActs m S R r
  unfolding writes wipes
  few_acts = record { with_room = roomy; without = full }
    where
      roomy : (s : Journal m) (c : C) → has_room m S R r s ≡ true → (writes ((journal_program m S R r).does s c) ≤ 1) × (wipes ((journal_program m S R r).does s c) ≤ 1)
      roomy s c p = rw p (go (r.changes s.state c))
        where
          a : A
          a = m.answer s.state c

          go : (b : Bool) → (writes (pick b (logs m S R r (place m S R r s) (r.row (r.call c))) [] ++ (say a ∷ [])) ≤ 1) × (wipes (pick b (logs m S R r (place m S R r s) (r.row (r.call c))) [] ++ (say a ∷ [])) ≤ 1)
          go true = log_few (place m S R r s) (r.row (r.call c)) a
          go false = (omega arith, omega arith)

      full : (s : Journal m) (c : C) → has_room m S R r s ≡ false →
          let n : ℕ = length (r.checkpoint (m.after s.state c)) in
          (writes ((journal_program m S R r).does s c) ≤ suc n) × (wipes ((journal_program m S R r).does s c) ≤ suc ((n + 15) / 16) + pick s.committed 0 2)
      full s c p = rw p (go (r.changes s.state c))
        where
          h : m.State
          h = m.after s.state c

          a : A
          a = m.answer s.state c

          acts_of : Bool → List (Act A)
          acts_of b = pick b (opens m S R r s.committed ++ checkpoints m S R r (not s.slot) (up s.turn) h (place m S R r s)) [] ++ (say a ∷ [])

          go : (b : Bool) → (writes (acts_of b) ≤ suc (length (r.checkpoint h))) × (wipes (acts_of b) ≤ suc ((length (r.checkpoint h) + 15) / 16) + pick s.committed 0 2)
          go true = full_few s.committed (not s.slot) (up s.turn) h (place m S R r s) a
          go false = (omega arith, omega arith)

  -- what whoever reads a slot and its log page by page may count on: of a checkpoint's page, its row and the state so far; of a page of the log, that the state so far is good, and what the page makes
  -- of it
  pub rows_each : (d : Chip) (b : ℕ) (rs : List (List ℕ)) → RowsAt d b rs → (k : ℕ) → k < length rs → d (b + k) ≡ has (get_or rs k [])
  unfolding RowsAt
  rows_each d b [] h k a = absurd (omega arith)
  rows_each d b (v ∷ vs) h zero a = let z : b + 0 ≡ b = omega arith in rw z h.0
  rows_each d b (v ∷ vs) h (suc k) a = let z : b + suc k ≡ suc b + k = omega arith in rw z (rows_each d (suc b) vs h.1 k (omega arith))

  replay_some : (d : Chip) (h : m.State) (b : ℕ) (os : List r.Op) (k : ℕ) → k ≤ length os → AllOf w.Fine os → RowsAt d b (map r.row os) → replay (acted_page m r) h d b k ≡ did r.acted h (take k os)
  unfolding AllOf RowsAt did replay
  replay_some d h b os zero a f v = refl
  replay_some d h b [] (suc k) a f v = absurd (omega arith)
  replay_some d h b (o ∷ os) (suc k) a f v = replay_front (acted_page m r) h d b k ∙ rw (v.0, w.unrow_row o f.0) (replay_some d (r.acted h o) (suc b) os k (omega arith) f.1 v.1)

  logged_each : (d : Chip) (b : ℕ) (h : m.State) (n : ℕ) (k : m.State) → Logged m S R r d b h n k → (j : ℕ) → j < n →
      r.Good (replay (acted_page m r) h d b j) × Passes m S R r (replay (acted_page m r) h d b j) (d (b + j)) (replay (acted_page m r) h d b (suc j))
  unfolding Logged
  logged_each d b h zero k l j a = absurd (omega arith)
  logged_each d b h (suc n) k (i, l, gd, p) j a = elim (cases_eq j n) [ inl z ↦ (rw z last) | inr z ↦ logged_each d b h n i l j (omega arith) ]
    where
      last : r.Good (replay (acted_page m r) h d b n) × Passes m S R r (replay (acted_page m r) h d b n) (d (b + n)) (replay (acted_page m r) h d b (suc n))
      last = rw (logged_is d b h (suc n) k (i, l, gd, p), logged_is d b h n i l) (gd, p)

  pub checkpoint_read : (d : Chip) (s : Journal m) (o : Page) (u : IsInUse m S R r d s o) (k : ℕ) → k < s.kept →
      (d (kept_at S s.slot + k) ≡ has (get_or (rows_of m S R r u.was) k []))
      × (replay (acted_page m r) (r.opened (r.head u.was)) d (kept_at S s.slot) k ≡ did r.acted (r.opened (r.head u.was)) (take k (r.checkpoint u.was)))
  checkpoint_read d s o u k a =
      let e = u.pages_are in let z = length_rows (r.checkpoint u.was) in (
        rows_each d (kept_at S s.slot) (rows_of m S R r u.was) u.kept k (omega arith),
        replay_some d (r.opened (r.head u.was)) (kept_at S s.slot) (r.checkpoint u.was) k (omega arith) (w.checkpoint_fine u.was u.was_good) u.kept,
      )

  pub log_read : (d : Chip) (s : Journal m) (o : Page) (u : IsInUse m S R r d s o) (j : ℕ) → j < s.used →
      r.Good (replay (acted_page m r) u.was (ring S R d) s.begins j)
      × Passes m S R r (replay (acted_page m r) u.was (ring S R d) s.begins j) (ring S R d (s.begins + j)) (replay (acted_page m r) u.was (ring S R d) s.begins (suc j))
  log_read d s o u j a = logged_each (ring S R d) s.begins u.was s.used s.state u.logged j a

  -- the first page of a slot
  stale_tells : (p : Page) (g : Turn) → Stale m S R r p g → Bare m S R r p ⊎ ((s : Commit r.Head) × (commit_of m r p ≡ some s))
  stale_tells p g (inl z) = inl z
  stale_tells p g (inr (s, z, v)) = inr (s, z)

  pub commits_tell : CommitsTell m S R r
  commits_tell d h (s, e, l, bf) y = go s.slot y refl l.body
    where
      go : (x y : Bool) → s.slot ≡ x → Body m S R r d s (d (base S (not x))) → Bare m S R r (d (base S y)) ⊎ ((t : Commit r.Head) × (commit_of m r (d (base S y)) ≡ some t))
      go true true q (in_use u) = inr (its_seal d s _ u, rw q at u.committed)
      go true true q (unused u) = inl (rw q at u.uncommitted)
      go true false q (in_use u) = stale_tells (d (base S false)) s.turn u.stale
      go true false q (unused u) = inl u.other
      go false true q (in_use u) = stale_tells (d (base S true)) s.turn u.stale
      go false true q (unused u) = inl u.other
      go false false q (in_use u) = inr (its_seal d s _ u, rw q at u.committed)
      go false false q (unused u) = inl (rw q at u.uncommitted)
