-- Which calls change the house, by their bytes and their answers.
use Rattle.std.proofs.Common.{◌≡◌, ℕ, ◌<◌, ◌≤◌, Bool, true, false, ◌&&◌, eqb, leb, List, length, get_or, take, drop, sym, refl, ap, ◌∙◌, arith}
use Rattle.meaning.specs.Lines.{pick}
use Rattle.meaning.specs.House.{House}
use Rattle.meaning.specs.Calls as meaning
use Rattle.meaning.specs.Calls.{Call, opens, files, books, pays, cancels, limits_to, ticks, free, price_of, booking, leg_is, garbled, refused, call_number, turned, turned_by, told, place, answer, good_fields}
use Rattle.protocol.specs.Forms.{answer_of, field_count, made}
use Rattle.protocol.specs.declared.Answer.{Answer}
use Rattle.protocol.specs.declared.Answer.TheVariants as answers
use Rattle.protocol.proofs.Numbers.{each_call}
use Rattle.wire.specs.Bytes.{numbers_in}
use Rattle.wire.specs.Rows.{decoded, list_at}
use Rattle.wire.proofs.Back.{whole_row}
use Rattle.wire.proofs.Decoding.{decoded_whole}
use Rattle.journal_rows.specs.Layout.{is_change, changes}

-- a call that is done is not told a refusal
pub told_so : (h : House) (c : Call) (n p : ℕ) → refused n p ≡ told h c → ⊥
unfolding told
told_so h (opens a b d e ls) n p q = let z : ◌≡◌ {A = ℕ} 0 1 = cc in omega arith
told_so h (files a b d m r) n p q = let z : ◌≡◌ {A = ℕ} 0 1 = cc in omega arith
told_so h (books d m is) n p q = let z : ◌≡◌ {A = ℕ} 0 1 = cc in omega arith
told_so h (pays k) n p q = let z : ◌≡◌ {A = ℕ} 0 1 = cc in omega arith
told_so h (cancels k) n p q = let z : ◌≡◌ {A = ℕ} 0 1 = cc in omega arith
told_so h (limits_to i ls) n p q = let z : ◌≡◌ {A = ℕ} 0 1 = cc in omega arith
told_so h (ticks m) n p q = let z : ◌≡◌ {A = ℕ} 0 1 = cc in omega arith
told_so h (free i d) n p q = let z : ◌≡◌ {A = ℕ} 0 1 = cc in omega arith
told_so h (price_of d is) n p q = let z : ◌≡◌ {A = ℕ} 0 1 = cc in omega arith
told_so h (booking k) n p q = let z : ◌≡◌ {A = ℕ} 0 1 = cc in omega arith
told_so h (leg_is i) n p q = let z : ◌≡◌ {A = ℕ} 0 1 = cc in omega arith
told_so h (garbled m) n p q = let z : ◌≡◌ {A = ℕ} 0 1 = cc in omega arith

-- what is refused changes nothing
pub refused_so : (l : meaning.Limits) (h : House) (c : Call) (n p : ℕ) → refused n p ≡ answer l h c → changes l h c ≡ false
refused_so l h c n p = go (eqb (turned l h c) 0)
  where
    go : (t : Bool) → refused n p ≡ pick t (told h c) (refused (turned l h c) (place c (turned l h c))) → (t && is_change c) ≡ false
    go true e = absurd (told_so h c n p e)
    go false e = refl

-- an answer that is no refusal
pub data Taken : meaning.Answer → Type 0 where
  number : (n : ℕ) → Taken (meaning.number n)
  two : (k s : ℕ) → Taken (meaning.two k s)
  stands : (s u p : ℕ) → Taken (meaning.stands_so s u p)
  sold : (ns : List ℕ) → Taken (meaning.sold ns)

not_refused : (a : meaning.Answer) (n p : ℕ) → Taken a → a ≡ refused n p → ⊥
not_refused a n p (number k) e = let z : ◌≡◌ {A = ℕ} 0 1 = cc in omega arith
not_refused a n p (two k s) e = let z : ◌≡◌ {A = ℕ} 0 1 = cc in omega arith
not_refused a n p (stands s u q) e = let z : ◌≡◌ {A = ℕ} 0 1 = cc in omega arith
not_refused a n p (sold ns) e = let z : ◌≡◌ {A = ℕ} 0 1 = cc in omega arith

-- what is not refused changes the house if it can
taken_so : (l : meaning.Limits) (h : House) (c : Call) (a : meaning.Answer) → Taken a → a ≡ answer l h c → (eqb (turned l h c) 0 ≡ true) × (changes l h c ≡ is_change c)
taken_so l h c a k = go (eqb (turned l h c) 0) refl
  where
    go : (t : Bool) → eqb (turned l h c) 0 ≡ t → a ≡ pick t (told h c) (refused (turned l h c) (place c (turned l h c))) → (t ≡ true) × ((t && is_change c) ≡ is_change c)
    go true q e = (refl, refl)
    go false q e = absurd (not_refused a _ _ k e)

-- which calls can, by their number
pub change_number : (c : Call) → is_change c ≡ leb (call_number c) 6
unfolding is_change call_number
change_number (opens a b d e ls) = refl
change_number (files a b d m r) = refl
change_number (books d m is) = refl
change_number (pays k) = refl
change_number (cancels k) = refl
change_number (limits_to i ls) = refl
change_number (ticks m) = refl
change_number (free i d) = refl
change_number (price_of d is) = refl
change_number (booking k) = refl
change_number (leg_is i) = refl
change_number (garbled m) = refl

-- a call's number is its first byte
made_number : (k : ℕ) → k ≤ 10 → (fs list : List ℕ) → call_number (made k fs list) ≡ k
unfolding call_number
made_number = each_call (λ k. (fs list : List ℕ) → call_number (made k fs list) ≡ k)
    (λ fs list. refl) (λ fs list. refl) (λ fs list. refl) (λ fs list. refl) (λ fs list. refl) (λ fs list. refl)
    (λ fs list. refl) (λ fs list. refl) (λ fs list. refl) (λ fs list. refl) (λ fs list. refl)

pub first_number : (bs : List ℕ) → call_number (decoded bs) ≤ 10 → (0 < length bs) × (call_number (decoded bs) ≡ get_or bs 0 0)
first_number bs h = let w = whole_row bs h in (w.some_byte, ap call_number (sym (decoded_whole bs (get_or bs 0 0) w.some_byte refl w.known w.long)) ∙ made_number (get_or bs 0 0) w.known (take (field_count (get_or bs 0 0)) (numbers_in (drop 1 bs))) (numbers_in (drop (list_at (get_or bs 0 0)) bs)))

-- bytes that are no call are refused
garbled_refused : (l : meaning.Limits) (h : House) (c : Call) → eqb (turned l h c) 0 ≡ true → call_number c ≤ 10
unfolding call_number good_fields turned_by
garbled_refused l h (opens a b d e ls) q = omega arith
garbled_refused l h (files a b d m r) q = omega arith
garbled_refused l h (books d m is) q = omega arith
garbled_refused l h (pays k) q = omega arith
garbled_refused l h (cancels k) q = omega arith
garbled_refused l h (limits_to i ls) q = omega arith
garbled_refused l h (ticks m) q = omega arith
garbled_refused l h (free i d) q = omega arith
garbled_refused l h (price_of d is) q = omega arith
garbled_refused l h (booking k) q = omega arith
garbled_refused l h (leg_is i) q = omega arith
garbled_refused l h (garbled m) q = let z : ◌≡◌ {A = Bool} false true = q in let y : ◌≡◌ {A = ℕ} 0 1 = cc in absurd (omega arith)

-- what is not refused, by its first byte
pub changes_so : (l : meaning.Limits) (h : House) (bs : List ℕ) (a : meaning.Answer) → Taken a → a ≡ answer l h (decoded bs) → (0 < length bs) × (changes l h (decoded bs) ≡ leb (get_or bs 0 0) 6)
changes_so l h bs a k e =
    let t = taken_so l h (decoded bs) a k e in
    let n = first_number bs (garbled_refused l h (decoded bs) t.0) in
    (n.0, t.1 ∙ change_number (decoded bs) ∙ ap (λ x. leb x 6) n.1)

-- an answer of the code that is no refusal
pub no_refusal : (a : Answer) (list : List ℕ) → ((n p : ℕ) → a ≡ answers.Refused n p → ⊥) → Taken (answer_of a list)
no_refusal (answers.Refused n p) list f = absurd (f n p refl)
no_refusal (answers.Number n) list f = number n
no_refusal (answers.Booked k s) list f = two k s
no_refusal (answers.Stands s u p) list f = stands s u p
no_refusal answers.Sold list f = sold list
