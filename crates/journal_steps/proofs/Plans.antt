-- What is owed, act by act, for the house's journal.
use Rattle.std.proofs.Common.{◌≡◌, ℕ, suc, ◌+◌, ◌*◌, ◌/◌, ◌<◌, ◌≤◌, Bool, true, false, ltb, List, [], ◌∷◌, ◌++◌, length, get_or, sym, refl, ap, ◌∙◌, add-one, arith}
use Rattle.std.proofs.lemmas.List.{get_or-map, length-map}
use Rattle.std.proofs.lemmas.Bool.{lt-ltb, le-ltb}
use Rattle.meaning.specs.Lines.{pick}
use Rattle.meaning.specs.House.{House}
use Rattle.meaning.specs.Calls.{Call, Answer, Limits, garbled}
use Rattle.journal.specs.Acts.{Act, write, wipe, say}
use Rattle.journal.specs.Slots as slots
use Rattle.journal.specs.Slots.{first, base, kept_at, next_block, rows_of, put, puts}
use Rattle.journal.specs.Plan.{plan, resting, answering, logging, logging_now, opening, opening_more, erasing, filling, filling_now, begins_block, fill, commit_write, log_page}
use Rattle.journal.proofs.Plan.{planned}
use Rattle.journal_rows.specs.Layout.{house, rows, slot_blocks, ring_blocks, Op, taken_call, checkpoint, checkpoint_page, head, pages}
use Rattle.journal_rows.specs.Bytes.{page_bytes, row}
use Rattle.journal_house.proofs.Checkpoint.{checkpoint_pages}
use Rattle.journal_house.proofs.Number.{by_number}

abbrev written : ℕ → List ℕ → List (Act Answer) → List (Act Answer)
written k bs rest = write k bs ∷ rest

abbrev erased : ℕ → List (Act Answer) → List (Act Answer)
erased k rest = wipe k ∷ rest

-- a page is written where it is written
pub same_page : (p q : ℕ) (bs : List ℕ) (rest : List (Act Answer)) → p ≡ q → written q bs rest ≡ written p bs rest
same_page p q bs rest e = ap (λ (k : ℕ). written k bs rest) (sym e)

-- and a block erased
pub same_block : (p q : ℕ) (rest : List (Act Answer)) → p ≡ q → erased q rest ≡ erased p rest
same_block p q rest e = ap (λ (k : ℕ). erased k rest) (sym e)

-- a page of the checkpoint, by its number
pub page_at : (l : Limits) (h : House) (j : ℕ) → j < pages (head h) → get_or (rows_of (house l) (slot_blocks l) (ring_blocks l) (rows l page_bytes) h) j [] ≡ row (checkpoint_page h j)
page_at l h j lt =
    let o : Op = taken_call (garbled 0) in
    let n = checkpoint_pages h in
    let t : j < length (checkpoint h) = omega arith in
    get_or-map row (checkpoint h) j o [] t ∙ ap row (by_number h j o t)

-- how many there are
pub pages_many : (l : Limits) (h : House) → length (rows_of (house l) (slot_blocks l) (ring_blocks l) (rows l page_bytes) h) ≡ pages (head h)
pages_many l h = length-map (checkpoint h) row ∙ sym (checkpoint_pages h)

module _ (l : Limits) (s : slots.Journal (house l)) where
  abbrev owes : Rattle.journal.specs.Plan.Work Call Answer → List (Act Answer)
  owes w = plan (house l) (slot_blocks l) (ring_blocks l) (rows l page_bytes) s w

  -- a page of the log that begins a block: the block after it is erased first
  pub log_first : (k : ℕ) (c : Call) (a : Answer) → begins_block k ≡ true → owes (logging k c a) ≡ wipe (next_block (slot_blocks l) (ring_blocks l) k) ∷ owes (logging_now k c a)
  log_first k c a e = ap (λ (t : Bool). (pick t (wipe (next_block (slot_blocks l) (ring_blocks l) k) ∷ []) [] ++ (write (16 * (slot_blocks l + slot_blocks l) + k) (row (taken_call c)) ∷ [])) ++ (say a ∷ [])) e

  pub log_next : (k : ℕ) (c : Call) (a : Answer) → begins_block k ≡ false → owes (logging k c a) ≡ owes (logging_now k c a)
  log_next k c a e = ap (λ (t : Bool). (pick t (wipe (next_block (slot_blocks l) (ring_blocks l) k) ∷ []) [] ++ (write (16 * (slot_blocks l + slot_blocks l) + k) (row (taken_call c)) ∷ [])) ++ (say a ∷ [])) e

  abbrev S : ℕ
  S = slot_blocks l

  abbrev R : ℕ
  R = ring_blocks l

  abbrev many : ℕ
  many = length (rows_of (house l) S R (rows l page_bytes) s.state)

  filling_is : (j : ℕ) (a : Answer) (t b : Bool) → ltb j many ≡ t → begins_block j ≡ b →
      owes (filling j a) ≡ pick t (pick b (wipe (suc (first S s.slot) + j / 16)) (fill (house l) S R (rows l page_bytes) s j)) (commit_write (house l) S R (rows l page_bytes) s) ∷ owes (pick t (pick b (filling_now j a) (filling (suc j) a)) (answering a))
  filling_is j a t b e f =
      (planned (house l) S R (rows l page_bytes)).one_act a s (filling j a) (λ z. let y : ◌≡◌ {A = ℕ} 0 1 = cc in omega arith)
      ∙ ap (λ (x : Bool). pick x (pick (begins_block j) (wipe (suc (first S s.slot) + j / 16)) (fill (house l) S R (rows l page_bytes) s j)) (commit_write (house l) S R (rows l page_bytes) s) ∷ owes (pick x (pick (begins_block j) (filling_now j a) (filling (suc j) a)) (answering a))) e
      ∙ ap (λ (x : Bool). pick t (pick x (wipe (suc (first S s.slot) + j / 16)) (fill (house l) S R (rows l page_bytes) s j)) (commit_write (house l) S R (rows l page_bytes) s) ∷ owes (pick t (pick x (filling_now j a) (filling (suc j) a)) (answering a))) f

  -- a page of the checkpoint that begins a block: the block is erased first
  pub fill_first : (j : ℕ) (a : Answer) → j < pages (head s.state) → begins_block j ≡ true → owes (filling j a) ≡ wipe (suc (first S s.slot) + j / 16) ∷ owes (filling_now j a)
  fill_first j a lt e = filling_is j a true true (lt-ltb j many (omega (arith, pages_many l s.state))) e

  pub fill_next : (j : ℕ) (a : Answer) → j < pages (head s.state) → begins_block j ≡ false → owes (filling j a) ≡ owes (filling_now j a)
  fill_next j a lt e = filling_is j a true false (lt-ltb j many (omega (arith, pages_many l s.state))) e

  -- behind the last page comes the commit record
  pub fill_last : (j : ℕ) (a : Answer) → pages (head s.state) ≤ j → owes (filling j a) ≡ commit_write (house l) S R (rows l page_bytes) s ∷ owes (answering a)
  fill_last j a ge = filling_is j a false (begins_block j) (le-ltb j many (omega (arith, pages_many l s.state))) refl

  -- the page itself
  pub fill_now : (j : ℕ) (a : Answer) → j < pages (head s.state) → owes (filling_now j a) ≡ write (16 * (first S s.slot + 1) + j) (row (checkpoint_page s.state j)) ∷ owes (filling (j + 1) a)
  fill_now j a lt =
      ap (λ (bs : List ℕ). write (16 * suc (first S s.slot) + j) bs ∷ owes (filling (suc j) a)) (page_at l s.state j lt)
      ∙ ap (λ (k : ℕ). write (16 * k + j) (row (checkpoint_page s.state j)) ∷ owes (filling (suc j) a)) (sym (add-one (first S s.slot)))
      ∙ ap (λ (i : ℕ). write (16 * (first S s.slot + 1) + j) (row (checkpoint_page s.state j)) ∷ owes (filling i a)) (sym (add-one j))
