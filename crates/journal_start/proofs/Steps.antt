-- What one page more makes of a start in code: a stage after the checkpoint, a page of the checkpoint that is refused, and pages of the log.
use Rattle.std.proofs.Common.{◌≡◌, ℕ, suc, ◌+◌, ◌-◌, ◌*◌, ◌/◌, ◌<◌, ◌≤◌, Bool, true, false, eqb, List, length, Option, sym, refl, ap, ◌∙◌, subst, add-one, arith}
use mathlib.Core.Option as plain
use Rattle.std.proofs.lemmas.Bool.{and_parts, both_ways, eqb-true, le-ltb}
use Rattle.meaning.specs.Lines.{pick}
use Rattle.meaning.specs.House.{House, with_bookings}
use Rattle.meaning.specs.Calls as calls
use Rattle.meaning.specs.Calls.{Call, after, new_house, the_booking}
use Rattle.meaning.specs.Chip.{Page, blank, has, spoilt, is_blank}
use Rattle.meaning.specs.Promise.{whole}
use Rattle.meaning.specs.Statements.{NobodyWaits, some_could}
use Rattle.meaning.proofs.Waits.{could_tells, nobody_waits}
use Rattle.limits.specs.Opening.{InRange, limits_mean}
use Rattle.limits.specs.declared.Limits.{Limits}
use Rattle.store.specs.Whole as store
use Rattle.store.specs.Whole.{Lent, at_tick}
use Rattle.store.specs.declared.Memory.{Memory}
use Rattle.seating.specs.Serving.{First, NoneBelow}
use Rattle.seating.proofs.Turns.{none_served, served_idle}
use Rattle.every_call.specs.Stage.{Idle, stage, stage_calls}
use Rattle.journal.specs.Slots.{later, Commit, acted_page, commit_of}
use Rattle.journal.specs.Start as start
use Rattle.journal_rows.specs.Layout.{taken_call, Good, Head, house, opened, pages, most_pages, slot_blocks, ring_blocks, rows}
use Rattle.journal_rows.specs.Bytes.{unrow, page_bytes}
use Rattle.journal_rows.proofs.ReadBack.{reads_back}
use Rattle.journal_load.specs.declared.CommitRecord.{CommitRecord}
use Rattle.journal_load.specs.Pages.{commit_told, head_of, Within, Loads, NoPage}
use Rattle.journal_start.specs.declared.InUse.{InUse}
use Rattle.journal_start.specs.declared.Stage.{Stage}
use Rattle.journal_start.specs.declared.Stage.TheVariants.{OneCommit, Reading, Replaying, Ready}
use Rattle.journal_start.specs.Starting.{NoCheckpoint, chosen_slot}
use Rattle.journal_steps.specs.Steps.{Fits, Unused, journal_of}
use Rattle.journal_steps.specs.declared.Journal.{Journal}
use Rattle.journal_start.specs.Stages.{reading_of, ring_pages, Ranges, Past, taken, checkpoint_on, log_on, found_log, At}

-- how many pages the ring has, whatever calls can be done
pub ring_any : (l : Limits) (a b : ℕ → Bool) → ring_blocks (limits_mean a l) ≡ ring_blocks (limits_mean b l)
unfolding ring_blocks slot_blocks
ring_any l a b = refl

pub ring_few : (l : Limits) → InRange l → ring_blocks (limits_mean whole l) < 200000
unfolding ring_blocks
ring_few l g = fit (slot_blocks (limits_mean whole l)) l.legs l.fares l.bookings g.3 g.4 g.5
  where
    fit : (s a b c : ℕ) → a ≤ 65536 → b ≤ 65536 → c ≤ 1000000 → (a + b + c) / 8 + 16 - 2 * s < 200000
    fit s a b c x y z = omega arith

-- the checkpoint of a commit record within limits is no larger than the largest
pub few_pages : (l : Limits) (c : CommitRecord) → Within l c → pages (head_of c) ≤ most_pages (limits_mean whole l)
few_pages l c w = let a = w.legs in let b = w.fares in let d = w.bookings in omega arith

-- what was found, in range
pub found_ranges : (l : Limits) (u : InUse) (j : Journal) (n : ℕ) → Within l u.commit → n ≤ ring_pages l → ((k : calls.Limits) (h : House) → journal_of k j h ≡ found_log k u n h) → Fits l j
found_ranges l u f n w a e =
    let q = e (limits_mean whole l) (new_house (limits_mean whole l)) in
    let p = few_pages l u.commit w in
    let i = ap (λ j. j.kept) q in let j = ap (λ j. j.begins) q in let k = ap (λ j. j.used) q in
    record { pages = omega arith; begins = rw j w.begins; used = omega arith }

-- nobody waits for what is free, where none is found
pub none_idle : (h : House) → NoneBelow h (length h.bookings) → some_could h h.bookings ≡ false
none_idle h f = served_idle h h 0 (sym (ap (with_bookings h) (none_served h (length h.bookings) 0 f)))

-- a house that calls lead to has none who could be held
pub none_waits : (l : calls.Limits) (h : House) (k : ℕ) → Good l h → First h k → ⊥
unfolding NobodyWaits
none_waits l h k g f =
    let both = and_parts (eqb (the_booking h k).stands 0) _ f.can in
    both_ways _ (could_tells h h.bookings (nobody_waits l h g.reached) k (eqb-true _ _ both.0)) both.1

-- what a page says, done
pub loads_acts : (l : calls.Limits) (h g : House) (p : Page) (bs : List ℕ) → p ≡ has bs → Loads bs h g → acted_page (house l) (rows l page_bytes) h p ≡ g
loads_acts l h g p bs e w = rw (e, w.says) (sym (w.done l))

-- when all of a checkpoint is read, the log comes next
checkpoint_ends : (l : calls.Limits) (u : InUse) (n : ℕ) (h : House) → pages (head_of u.commit) ≤ n → checkpoint_on l u n h ≡ log_on l u 0 h
checkpoint_ends l u n h a = rw (le-ltb n (pages (head_of u.commit)) a)

-- a stage past the checkpoint
pub past_at : (m n : Memory) (k : Limits) (t : Stage) (u : InUse) (i : ℕ) (v : start.Reading (house (stage m)) (rows (stage m) page_bytes)) →
    k ≡ n.limits → Lent m n → ((can : ℕ → Bool) (h : House) → reading_of (limits_mean can k) t h ≡ log_on (limits_mean can k) u i h) → Ranges k t → Past t → Idle n →
    log_on (stage m) u i (store.house n) ≡ v → At m n t v
past_at m n k t u i v e lent q r p idle z =
    let f : k ≡ m.limits = e ∙ lent.limits in
    record {
      reading = subst (λ (o : Limits). reading_of (limits_mean stage_calls o) t (store.house n) ≡ log_on (limits_mean stage_calls o) u i (store.house n)) f (q stage_calls (store.house n)) ∙ z;
      fits = record { ranges = subst (λ (o : Limits). Ranges o t) e r; holds = p n idle };
    }

-- a checkpoint without a page
pub none_kept : (m n : Memory) (u : InUse) → store.house m ≡ new_house (stage m) → store.house n ≡ at_tick (store.house m) u.commit.clock → pages (head_of u.commit) ≤ 0 →
    Idle n × (log_on (stage m) u 0 (store.house n) ≡ checkpoint_on (stage m) u 0 (opened (stage m) (head_of u.commit)))
unfolding some_could
none_kept m n u e f a =
    let g : store.house n ≡ opened (stage m) (head_of u.commit) = f ∙ ap (λ h. at_tick h u.commit.clock) e in
    (subst (λ (h : House). some_could h h.bookings ≡ false) (sym g) refl, ap (log_on (stage m) u 0) g ∙ sym (checkpoint_ends (stage m) u 0 (opened (stage m) (head_of u.commit)) a))

-- a chip that was never used
none_chosen : (j : Journal) → Unused j → (l : calls.Limits) (o q : plain.Option (Commit Head)) → plain.Option.none ≡ chosen_slot o q → (h : House) → h ≡ new_house l →
    start.Reading.ready (journal_of l j h) ≡ start.chosen (house l) (slot_blocks l) (ring_blocks l) (rows l page_bytes) o q
none_chosen j v l plain.Option.none plain.Option.none e h z = rw z (ap start.Reading.ready (v.is l))
none_chosen j v l plain.Option.none (plain.Option.some t) e h z = let y : ◌≡◌ {A = ℕ} 0 1 = cc in absurd (omega arith)
none_chosen j v l (plain.Option.some s) plain.Option.none e h z = let y : ◌≡◌ {A = ℕ} 0 1 = cc in absurd (omega arith)
none_chosen j v l (plain.Option.some s) (plain.Option.some t) e0 h z = absurd (go (later t.turn s.turn) e0)
  where
    go : (b : Bool) → plain.Option.none ≡ pick {A = plain.Option (Bool × Commit Head)} b (plain.Option.some (true, t)) (plain.Option.some (false, s)) → ⊥
    go true e = let y : ◌≡◌ {A = ℕ} 0 1 = cc in omega arith
    go false e = let y : ◌≡◌ {A = ℕ} 0 1 = cc in omega arith

pub never_at : (j : Journal) → Unused j → (m : Memory) (k : Limits) (o q : Option CommitRecord) (p : Page) → k ≡ m.limits → store.house m ≡ new_house (stage m) →
    ((can : ℕ → Bool) → commit_told q ≡ commit_of (house (limits_mean can k)) (rows (limits_mean can k) page_bytes) p) → plain.Option.none ≡ chosen_slot (commit_told o) (commit_told q) →
    At m m (Ready j) (taken (stage m) (reading_of (stage m) (OneCommit o) (store.house m)) p)
unfolding some_could
never_at j v m k o q p e z f w =
    let g : commit_told q ≡ commit_of (house (stage m)) (rows (stage m) page_bytes) p = subst (λ (l : Limits). commit_told q ≡ commit_of (house (limits_mean stage_calls l)) (rows (limits_mean stage_calls l) page_bytes) p) e (f stage_calls) in
    record {
      reading = none_chosen j v (stage m) (commit_told o) (commit_told q) w (store.house m) z ∙ ap (start.chosen (house (stage m)) (slot_blocks (stage m)) (ring_blocks (stage m)) (rows (stage m) page_bytes) (commit_told o)) g;
      fits = record { ranges = v.fits m.limits; holds = subst (λ (h : House). some_could h h.bookings ≡ false) (sym z) refl };
    }

module _ (m n : Memory) (u : InUse) (i : ℕ) (p : Page) (bs : List ℕ) (e : p ≡ has bs) where
  -- a page that can't be one of the checkpoint
  pub page_refused : NoPage u.commit i bs → NoCheckpoint (stage m) (head_of u.commit) i (store.house m) p
  page_refused w was good q z last = w (stage m) was good q (let y = sym e ∙ z in cc) reads_back

  -- a checkpoint that is read to its end
  module _ (a : pages (head_of u.commit) ≤ i + 1) (b : i < pages (head_of u.commit)) (w : Loads bs (store.house m) (store.house n)) where
    pub whole_refused : (k : ℕ) → First (store.house n) k → NoCheckpoint (stage m) (head_of u.commit) i (store.house m) p
    whole_refused k f was good q z last =
        let y : store.house n ≡ was = sym (loads_acts (stage m) (store.house m) (store.house n) p bs e w) ∙ last (omega arith) in
        none_waits (stage m) was k good (subst (λ (h : House). First h k) y f)

    pub whole_on : log_on (stage m) u 0 (store.house n) ≡ taken (stage m) (reading_of (stage m) (Reading u i) (store.house m)) p
    whole_on =
        sym (checkpoint_ends (stage m) u (suc i) (store.house n) (omega arith)) ∙ ap (checkpoint_on (stage m) u (suc i)) (sym (loads_acts (stage m) (store.house m) (store.house n) p bs e w))

-- pages of the log: a blank one, one that is spoilt, and a call
module _ (m : Memory) (u : InUse) (i : ℕ) (p : Page) where
  abbrev so : start.Reading (house (stage m)) (rows (stage m) page_bytes)
  so = taken (stage m) (reading_of (stage m) (Replaying u i) (store.house m)) p

  pub blank_ends : (f : Journal) → p ≡ blank → Within m.limits u.commit → i < ring_pages m.limits → Idle m → ((k : calls.Limits) (h : House) → journal_of k f h ≡ found_log k u i h) → At m m (Ready f) so
  unfolding is_blank
  blank_ends f e w a idle q = record {
    reading = ap start.Reading.ready (q (stage m) (store.house m)) ∙ (rw e);
    fits = record { ranges = found_ranges m.limits u f i w (omega arith) q; holds = idle };
  }

  pub spoilt_passes : p ≡ spoilt → log_on (stage m) u (i + 1) (store.house m) ≡ so
  unfolding is_blank
  spoilt_passes e = rw (e, add-one)

  pub call_done : (n : Memory) (bs : List ℕ) (y : Call) → p ≡ has bs → unrow bs ≡ plain.Option.some (taken_call y) → store.house n ≡ after (stage m) (store.house m) y → log_on (stage m) u (i + 1) (store.house n) ≡ so
  unfolding is_blank
  call_done n bs y e u d = rw (e, u, add-one, d)
