-- What a call that changed the house makes of the journal.
use Rattle.std.proofs.Common.{◌≡◌, ℕ, ◌+◌, ◌*◌, Bool, true, false, not, sym, refl, ap, ◌∙◌, ap₂, add-one}
use Rattle.meaning.specs.Lines.{pick}
use Rattle.meaning.specs.House.{House}
use Rattle.meaning.specs.Calls as meaning
use Rattle.meaning.specs.Calls.{Call, Answer}
use Rattle.limits.specs.Opening.{limits_mean}
use Rattle.limits.specs.declared.Limits.{Limits}
use Rattle.journal.specs.declared.Turn.{Turn}
use Rattle.journal.specs.declared.Slot.{Slot}
use Rattle.journal.specs.Codes.{turn_of, is_second}
use Rattle.journal.specs.Slots as slots
use Rattle.journal.specs.Slots.{around, up, with_page, with_checkpoint}
use Rattle.journal.specs.Plan.{logging, erasing, opening}
use Rattle.journal_rows.specs.Layout.{house, rows, slot_blocks, ring_blocks}
use Rattle.journal_rows.specs.Bytes.{page_bytes}
use Rattle.journal_steps.specs.Steps.{Advanced, chip_limits, journal_of, log_has_room, log_place, work_of}
use Rattle.journal_steps.specs.declared.Journal.{Journal}
use Rattle.journal_steps.specs.declared.Work.{Work}
use Rattle.journal_steps.specs.declared.Work.TheVariants as work
use Rattle.journal_steps.proofs.Plans.{pages_many}

-- which calls can be done does not matter for the ring
same_ring : (can : ℕ → Bool) (l : Limits) → ring_blocks (limits_mean can l) ≡ ring_blocks (chip_limits l)
unfolding ring_blocks slot_blocks
same_ring can l = refl

same_place : (can : ℕ → Bool) (l : Limits) (j : Journal) (p : ℕ) → p ≡ log_place l j → p ≡ around (16 * ring_blocks (limits_mean can l)) (j.begins + j.used)
same_place can l j p e = e ∙ ap (λ (r : ℕ). around (16 * r) (j.begins + j.used)) (sym (same_ring can l))

-- one page more in the log
pub logged : (l : Limits) (n : ℕ) (j : Journal) (p : ℕ) → log_has_room j ≡ true → p ≡ log_place l j →
    Advanced l n j (record { committed = j.committed; slot = j.slot; turn = j.turn; pages = j.pages; begins = j.begins; used = j.used + 1 }) (work.Logging p)
logged l n j p e q = record {
  journal = λ can g h k.
      let m : meaning.Limits = limits_mean can l in
      let s : slots.Journal (house m) = journal_of m j g in
      let x : slots.Journal (house m) = with_page (house m) (slot_blocks m) (ring_blocks m) (rows m page_bytes) s h in
      let y : slots.Journal (house m) = with_checkpoint (house m) (slot_blocks m) (ring_blocks m) (rows m page_bytes) s h in
      ap (λ (u : ℕ). record { committed = j.committed; slot = is_second j.slot; turn = turn_of j.turn; kept = j.pages; begins = j.begins; used = u; state = h }) (add-one j.used) ∙ ap (λ (t : Bool). pick t x y) (sym e);
  work = λ can g c a.
      ap (λ (k : ℕ). logging k c a) (same_place can l j p q)
      ∙ ap (λ (t : Bool). pick t (logging (around (16 * ring_blocks (limits_mean can l)) (j.begins + j.used)) c a) (pick j.committed (erasing a) (opening a))) (sym e);
}

begins_so : (b : Bool) (c : Call) (a : Answer) → work_of (pick b work.Erasing work.Opening) c a ≡ pick b (erasing a) (opening a)
begins_so true c a = refl
begins_so false c a = refl

-- a checkpoint in the other slot
pub checkpointed : (l : Limits) (n : ℕ) (j : Journal) (p : ℕ) (x : Slot) (t : Turn) (w : Work) → log_has_room j ≡ false → p ≡ log_place l j → is_second x ≡ not (is_second j.slot) → turn_of t ≡ up (turn_of j.turn) → w ≡ pick j.committed work.Erasing work.Opening →
    Advanced l n j (record { committed = true; slot = x; turn = t; pages = n; begins = p; used = 0 }) w
checkpointed l n j p x t w e q o v z = record {
  journal = λ can g h k.
      let m : meaning.Limits = limits_mean can l in
      let s : slots.Journal (house m) = journal_of m j g in
      let logs : slots.Journal (house m) = with_page (house m) (slot_blocks m) (ring_blocks m) (rows m page_bytes) s h in
      let fills : slots.Journal (house m) = with_checkpoint (house m) (slot_blocks m) (ring_blocks m) (rows m page_bytes) s h in
      ap₂ (λ (b : Bool) (u : slots.Turn). made m b u n p h) o v
      ∙ ap₂ (λ (i b : ℕ). made m (not (is_second j.slot)) (up (turn_of j.turn)) i b h) (sym k ∙ sym (pages_many m h)) (same_place can l j p q)
      ∙ ap (λ (b : Bool). pick b logs fills) (sym e);
  work = λ can g c a.
      ap (λ (x : Work). work_of x c a) z ∙ begins_so j.committed c a
      ∙ ap (λ (b : Bool). pick b (logging (around (16 * ring_blocks (limits_mean can l)) (j.begins + j.used)) c a) (pick j.committed (erasing a) (opening a))) (sym e);
}
  where
    made : (m : meaning.Limits) → Bool → slots.Turn → ℕ → ℕ → House → slots.Journal (house m)
    made m x u i b h = record { committed = true; slot = x; turn = u; kept = i; begins = b; used = 0; state = h }
