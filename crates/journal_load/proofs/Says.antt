-- The page of a call.
use Rattle.std.proofs.Common.{◌≡◌, ℕ, ◌^◌, ◌<◌, ◌≤◌, true, ◌&&◌, ltb, leb, List, length, refl, ap, ◌∙◌, arith}
use Rattle.std.proofs.lemmas.Bool.{and_parts, leb-true}
use Rattle.meaning.specs.Calls.{Call, opens, files, books, pays, cancels, limits_to, ticks, free, price_of, booking, leg_is, garbled, call_number, good_fields, good_limits}
use Rattle.wire.specs.Bytes.{bytes_of, row_of, numbers_in}
use Rattle.wire.specs.Rows.{in_bytes, encoded}
use Rattle.wire.proofs.Fields.{row_length, number_back}
use Rattle.store.proofs.Ranges.{limits_tell}
use Rattle.journal_rows.specs.Layout.{taken_call, is_change, Fine}
use Rattle.journal_rows.specs.Bytes.{call_page, row}
use Rattle.journal_rows.specs.Sorts.{kind_in as kind, count_in as count}

-- the page of a call has kind 5 and counts the call's bytes
pub call_kind : (bs : List ℕ) → kind (call_page bs) ≡ 5
unfolding row_of bytes_of numbers_in
call_kind bs = refl

pub call_count : (bs : List ℕ) → length bs < 256 ^ 4 → count (call_page bs) ≡ length bs
unfolding row_of bytes_of numbers_in
call_count bs h = number_back 4 (length bs) h

-- a call that is taken has few bytes
pub call_short : (c : Call) → good_fields c ≡ true → is_change c ≡ true → length (encoded c) ≤ 504
unfolding encoded in_bytes call_number row_of bytes_of good_fields is_change
call_short (opens a b c d ls) g e =
    let l : length ls ≤ 26 = (limits_tell ls (and_parts (ltb c d && ltb d 16777216) (good_limits ls) (and_parts (ltb a 65536 && ltb b 65536) ((ltb c d && ltb d 16777216) && good_limits ls) g).1).1).1 in
    omega (arith, row_length 4 ls)
call_short (files a b c n p) g e = omega arith
call_short (books c n is) g e =
    let l : length is ≤ 8 = leb-true _ _ (and_parts (leb 1 (length is)) (leb (length is) 8) (and_parts (ltb c 26 && (leb 1 n && leb n 9)) (leb 1 (length is) && leb (length is) 8) g).1).1 in
    omega (arith, row_length 4 is)
call_short (pays k) g e = omega arith
call_short (cancels k) g e = omega arith
call_short (limits_to i ls) g e = let l : length ls ≤ 26 = (limits_tell ls g).1 in omega (arith, row_length 4 ls)
call_short (ticks n) g e = omega arith
call_short (free i c) g e = let n : ◌≡◌ {A = ℕ} 0 1 = cc in absurd (omega arith)
call_short (price_of c is) g e = let n : ◌≡◌ {A = ℕ} 0 1 = cc in absurd (omega arith)
call_short (booking k) g e = let n : ◌≡◌ {A = ℕ} 0 1 = cc in absurd (omega arith)
call_short (leg_is i) g e = let n : ◌≡◌ {A = ℕ} 0 1 = cc in absurd (omega arith)
call_short (garbled n) g e = let n : ◌≡◌ {A = ℕ} 0 1 = cc in absurd (omega arith)

-- so no call that is taken has a page of another kind, or one that counts more
pub no_call : (bs : List ℕ) (c : Call) → Fine (taken_call c) → bs ≡ row (taken_call c) → (kind bs ≡ 5) × (count bs ≤ 504)
no_call bs c f e =
    let s = call_short c f.1 f.2 in
    let n : count bs ≡ length (encoded c) = ap count e ∙ call_count (encoded c) (omega arith) in
    (ap kind e ∙ call_kind (encoded c), omega arith)
