-- What a call that is begun leaves: the program's next state, and the acts that the program does for it.
use Rattle.std.proofs.Common.{◌≡◌, ℕ, ◌≤◌, Bool, true, false, not, eqb, List, [], ◌∷◌, ◌++◌, length, sym, ap, ◌∙◌, subst, ap₂, arith}
use Rattle.std.proofs.lemmas.Bool.{and_parts, leb-true}
use Rattle.meaning.specs.Lines.{pick}
use Rattle.meaning.specs.House.{House}
use Rattle.meaning.specs.Calls as meaning
use Rattle.meaning.specs.Calls.{Call, Answer, after, answer, call_number, good_fields, turned}
use Rattle.journal.specs.Codes.{is_second}
use Rattle.journal.specs.Acts.{say}
use Rattle.wire.specs.Bytes.{Bytes}
use Rattle.wire.specs.Rows.{encoded, decoded}
use Rattle.wire.proofs.Back.{bytes_come_back, calls_fit}
use Rattle.journal.specs.Slots as slots
use Rattle.journal.specs.Slots.{has_room, with_page, with_checkpoint, journal_next, place}
use Rattle.journal.specs.Plan as plans
use Rattle.journal.specs.Plan.{plan, begins, logging, erasing, opening, answering}
use Rattle.journal.proofs.Plan.{planned}
use Rattle.journal_rows.specs.Layout.{house, rows, taken_call, slot_blocks, ring_blocks, changes, is_change, program}
use Rattle.journal_rows.specs.Bytes.{page_bytes}
use Rattle.journal_rows.proofs.ReadBack.{call_short}
use Rattle.journal_house.proofs.Stays.{call_fine, unchanged_same}
use Rattle.journal_steps.specs.Steps.{journal_of, owed, work_of}
use Rattle.journal_steps.specs.declared.Journal.{Journal}
use Rattle.journal_steps.specs.declared.Work.{Work}
use Rattle.journal_steps.specs.declared.Work.TheVariants as work
use Rattle.session.proofs.Changes.{change_number}

-- a call that changes the house is just its bytes, and short
pub row_whole : (l : meaning.Limits) (h : House) (bs : List ℕ) → Bytes bs → changes l h (decoded bs) ≡ true → (encoded (decoded bs) ≡ bs) × (length bs ≤ 126)
row_whole l h bs b e =
    let both = and_parts (eqb (turned l h (decoded bs)) 0) (is_change (decoded bs)) e in
    let six = leb-true (call_number (decoded bs)) 6 (sym (change_number (decoded bs)) ∙ both.1) in
    let known : call_number (decoded bs) ≤ 10 = omega arith in
    let fine = call_fine l h (decoded bs) (calls_fit bs b known).fits e in
    let back = bytes_come_back bs b known in
    (back, subst (λ (w : List ℕ). length w ≤ 126) back (call_short (decoded bs) fine.1 fine.2))

module _ (l : meaning.Limits) (j : Journal) (g h : House) (c : Call) (leaves : h ≡ after l g c) where
  abbrev before : slots.Journal (house l)
  before = journal_of l j g

  abbrev room : Bool
  room = has_room (house l) (slot_blocks l) (ring_blocks l) (rows l page_bytes) before

  abbrev paged : House → slots.Journal (house l)
  paged v = with_page (house l) (slot_blocks l) (ring_blocks l) (rows l page_bytes) before v

  abbrev committed : House → slots.Journal (house l)
  committed v = with_checkpoint (house l) (slot_blocks l) (ring_blocks l) (rows l page_bytes) before v

  -- A QUESTION, OR WHAT IS REFUSED: nothing is kept, and the answer is all
  pub same_next : changes l g c ≡ false → journal_of l j h ≡ (program page_bytes l).next before c
  same_next e =
      ap (λ (v : House). journal_of l j v) (leaves ∙ unchanged_same l g c e)
      ∙ ap (λ (t : Bool). pick t (pick room (paged (after l g c)) (committed (after l g c))) before) (sym e)

  pub same_acts : (a : Answer) (d : Call) → changes l g c ≡ false → a ≡ answer l g c → owed l j h work.Answering d a ≡ (program page_bytes l).does before c
  same_acts a d e q =
      ap (λ (x : Answer). say x ∷ []) q
      ∙ ap (λ (t : Bool). pick t (pick room (slots.logs (house l) (slot_blocks l) (ring_blocks l) (rows l page_bytes) (place (house l) (slot_blocks l) (ring_blocks l) (rows l page_bytes) before) (page_bytes.row (taken_call c)))
      (slots.opens (house l) (slot_blocks l) (ring_blocks l) (rows l page_bytes) j.committed ++ slots.checkpoints (house l) (slot_blocks l) (ring_blocks l) (rows l page_bytes) (not (is_second j.slot)) (slots.up before.turn) (after l g c) (place (house l) (slot_blocks l) (ring_blocks l) (rows l page_bytes) before))) []
      ++ (say (answer l g c) ∷ [])) (sym e)

  -- A CHANGE: the log has one page more, or a checkpoint begins
  pub changed_next : (k : Journal) → changes l g c ≡ true → journal_of l k h ≡ pick room (paged h) (committed h) → journal_of l k h ≡ (program page_bytes l).next before c
  changed_next k e q =
      q ∙ ap (λ (v : House). pick room (paged v) (committed v)) leaves ∙ ap (λ (t : Bool). pick t (pick room (paged (after l g c)) (committed (after l g c))) before) (sym e)

  pub changed_acts : (k : Journal) (w : Work) (a : Answer) (d : Call) → changes l g c ≡ true → journal_of l k h ≡ pick room (paged h) (committed h) → d ≡ c → a ≡ answer l g c →
      work_of w c (answer l g c) ≡ pick room (logging (place (house l) (slot_blocks l) (ring_blocks l) (rows l page_bytes) before) c (answer l g c)) (pick j.committed (erasing (answer l g c)) (opening (answer l g c))) →
      owed l k h w d a ≡ (program page_bytes l).does before c
  changed_acts k w a d e q u v x =
      ap₂ (λ (y : Call) (z : Answer). owed l k h w y z) u v
      ∙ ap₂ (λ (s : slots.Journal (house l)) (y : plans.Work Call Answer). plan (house l) (slot_blocks l) (ring_blocks l) (rows l page_bytes) s y) (changed_next k e q) (x ∙ ap (λ (t : Bool). pick t (pick room (logging (place (house l) (slot_blocks l) (ring_blocks l) (rows l page_bytes) before) c (answer l g c)) (pick j.committed (erasing (answer l g c)) (opening (answer l g c)))) (answering (answer l g c))) (sym e))
      ∙ sym ((planned (house l) (slot_blocks l) (ring_blocks l) (rows l page_bytes)).whole before c)
