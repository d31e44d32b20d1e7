-- A call one act at a time.
use Rattle.std.proofs.Common.{◌≡◌, ℕ, suc, ◌+◌, ◌/◌, Bool, true, false, not, ltb, List, [], ◌∷◌, ◌++◌, length, get_or, drop, refl, ap, ◌∙◌, append_assoc, drop_of_length-le, drop-cons}
use Rattle.std.proofs.lemmas.Bool.{ltb-true, ltb-false}
use Rattle.meaning.specs.Lines.{pick}
use Rattle.journal.specs.Acts.{Act, wipe, say}
use Rattle.journal.specs.Machine.{Machine}
use Rattle.journal.specs.Slots.{up, Rows, first, kept_at, put, puts, Journal, rows_of, has_room, place, logs, opens, checkpoints, with_page, with_checkpoint, journal_next, journal_program}
use Rattle.journal.specs.Plan.{Work, resting, answering, logging, logging_now, opening, opening_more, erasing, filling, filling_now, begins_block, commit_write, fills, fill, plan, act_of, left_of, begins, Planned}

module _ {C A : Type 0} (m : Machine C A) (S R : ℕ) (r : Rows m) where
  whole_plan : (s : Journal m) (c : C) → (journal_program m S R r).does s c ≡ plan m S R r (journal_next m S R r s c) (begins m S R r s c)
  whole_plan s c = go (r.changes s.state c) (has_room m S R r s) s.committed
    where
      a : A
      a = m.answer s.state c

      h : m.State
      h = m.after s.state c

      go : (b1 b2 b3 : Bool) →
          pick b1 (pick b2 (logs m S R r (place m S R r s) (r.row (r.call c))) (opens m S R r b3 ++ checkpoints m S R r (not s.slot) (up s.turn) h (place m S R r s))) [] ++ (say a ∷ [])
          ≡ plan m S R r (pick b1 (pick b2 (with_page m S R r s h) (with_checkpoint m S R r s h)) s) (pick b1 (pick b2 (logging (place m S R r s) c a) (pick b3 (erasing a) (opening a))) (answering a))
      go true true b3 = refl
      go true false true = ap (λ l. wipe (first S (not s.slot)) ∷ l) (append_assoc (puts A (first S (not s.slot)) 0 (rows_of m S R r h)) _ _)
      go true false false =
          ap (λ l. wipe (S + S) ∷ (wipe (suc (S + S)) ∷ (wipe (first S (not s.slot)) ∷ l))) (append_assoc (puts A (first S (not s.slot)) 0 (rows_of m S R r h)) _ _)
      go false b2 b3 = refl

  -- a page, with or without the erase before it
  one_put : (b : Bool) (x y : Act A) (rest : List (Act A)) → (pick b (x ∷ []) [] ++ (y ∷ [])) ++ rest ≡ pick b x y ∷ pick b (y ∷ rest) rest
  one_put true x y rest = refl
  one_put false x y rest = refl

  plan_pick : (b : Bool) (s : Journal m) (v w : Work C A) → pick b (plan m S R r s v) (plan m S R r s w) ≡ plan m S R r s (pick b v w)
  plan_pick true s v w = refl
  plan_pick false s v w = refl

  one_act : (z : A) (s : Journal m) (w : Work C A) → (w ≡ resting → ⊥) → plan m S R r s w ≡ act_of m S R r z s w ∷ plan m S R r s (left_of m S R r s w)
  unfolding puts
  one_act z s resting ne = absurd (ne refl)
  one_act z s (answering a) ne = refl
  one_act z s (logging k c a) ne = one_put (begins_block k) _ _ _ ∙ ap (λ l. act_of m S R r z s (logging k c a) ∷ l) (plan_pick (begins_block k) s (logging_now k c a) (answering a))
  one_act z s (logging_now k c a) ne = refl
  one_act z s (opening a) ne = refl
  one_act z s (opening_more a) ne = refl
  one_act z s (erasing a) ne = refl
  one_act z s (filling j a) ne = go (ltb j (length (rows_of m S R r s.state))) refl
    where
      go : (b : Bool) → ltb j (length (rows_of m S R r s.state)) ≡ b →
          plan m S R r s (filling j a) ≡
          pick b (pick (begins_block j) (wipe (suc (first S s.slot) + j / 16)) (fill m S R r s j)) (commit_write m S R r s)
          ∷ plan m S R r s (pick b (pick (begins_block j) (filling_now j a) (filling (suc j) a)) (answering a))
      go true e =
          rw (drop-cons (rows_of m S R r s.state) j [] (ltb-true j (length (rows_of m S R r s.state)) e))
          (append_assoc (put A j (suc (first S s.slot) + j / 16) (kept_at S s.slot + j) (get_or (rows_of m S R r s.state) j [])) (puts A (first S s.slot) (suc j) (drop (suc j) (rows_of m S R r s.state))) (commit_write m S R r s ∷ (say a ∷ []))
          ∙ one_put (begins_block j) (wipe (suc (first S s.slot) + j / 16)) (fill m S R r s j) (fills m S R r s (suc j) a)
          ∙ ap (λ l. pick (begins_block j) (wipe (suc (first S s.slot) + j / 16)) (fill m S R r s j) ∷ l) (plan_pick (begins_block j) s (filling_now j a) (filling (suc j) a)))
      go false e = rw (drop_of_length-le (rows_of m S R r s.state) {i = j} (ltb-false j (length (rows_of m S R r s.state)) e))
  one_act z s (filling_now j a) ne = refl

  pub planned : Planned m S R r
  planned = record { whole = whole_plan; one_act = one_act }
