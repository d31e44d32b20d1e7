-- Pages that are filled from the front: what was put so far, and zeros behind it.
use Rattle.std.proofs.Common.{◌≡◌, ℕ, zero, suc, ◌+◌, ◌-◌, ◌*◌, ◌≤◌, List, [], ◌∷◌, ◌++◌, length, take, drop, replicate, sym, refl, ap, ◌∙◌, append_assoc, arith, length-append}
use borrow.Rule.Slice.PartMut.{put_mid, post_of}
use Rattle.std.proofs.lemmas.List.{take_at, drop_at, drop_all, append-nil, drop-replicate}
use Rattle.wire.specs.Bytes.{bytes_of, row_of, over}
use Rattle.wire.proofs.Fields.{row_length}
use Rattle.wire.proofs.Written.{over_front}
use Rattle.journal_rows.specs.Bytes.{filled, page}

-- a part that is written over whole
pub whole : (new old : List ℕ) → length old ≤ length new → over 0 new old ≡ new
whole new old h = over_front new old ∙ (ap (λ x. new ++ x) (drop_all (length new) old h) ∙ append-nil new)

-- rows of numbers, one behind the other
pub row_append : (width : ℕ) (ns ms : List ℕ) → row_of width (ns ++ ms) ≡ row_of width ns ++ row_of width ms
unfolding row_of
row_append width [] ms = refl
row_append width (n ∷ ns) ms = ap (λ x. bytes_of width n ++ x) (row_append width ns ms) ∙ sym (append_assoc (bytes_of width n) (row_of width ns) (row_of width ms))

row_zeros : (n : ℕ) → row_of 4 (replicate n 0) ≡ replicate (4 * n) 0
unfolding row_of bytes_of
row_zeros zero = refl
row_zeros (suc n) =
    let e : 4 * suc n ≡ suc (suc (suc (suc (4 * n)))) = omega arith in
    rw e (ap (λ x. 0 ∷ (0 ∷ (0 ∷ (0 ∷ x)))) (row_zeros n))

-- a page of numbers is their bytes with zeros behind them
pub page_is : (ns : List ℕ) → page ns ≡ filled (row_of 4 ns)
unfolding page
page_is ns =
    let e : 4 * (128 - length ns) ≡ 512 - length (row_of 4 ns) = omega (arith, row_length 4 ns) in
    row_append 4 ns (replicate (128 - length ns) 0) ∙ ap (λ x. row_of 4 ns ++ x) (row_zeros (128 - length ns) ∙ ap (λ m. replicate m 0) e)

fewer : (k n m : ℕ) → n - k ≡ m → drop {A = ℕ} k (replicate n 0) ≡ replicate m 0
fewer k n m e = drop-replicate k n 0 ∙ ap (λ x. replicate x 0) e

-- ONE PART MORE right behind what was put, of whatever length
pub more : (size at k : ℕ) (bs new out : List ℕ) → out ≡ bs ++ replicate (size - length bs) 0 → at ≡ length bs → k ≡ length new → length bs + length new ≤ size →
    put_mid at k out new ≡ (bs ++ new) ++ replicate (size - length (bs ++ new)) 0
more size at k bs new out o a n fits =
    let zeros : List ℕ = replicate (size - length bs) 0 in
    let before : take at (bs ++ zeros) ≡ bs = take_at bs zeros at (sym a) in
    let left : (size - length bs) - k ≡ size - length (bs ++ new) = omega (arith, length-append bs new) in
    let behind : drop at (bs ++ zeros) ≡ zeros = drop_at bs zeros at (sym a) in
    let rest : drop k zeros ≡ replicate (size - length (bs ++ new)) 0 = fewer k (size - length bs) _ left in
    let put : put_mid at k (bs ++ zeros) new ≡ bs ++ (new ++ drop k zeros) = λ d. before d ++ (new ++ drop k (behind d)) in
    ap (λ x. put_mid at k x new) o ∙ (put ∙ (ap (λ x. bs ++ (new ++ x)) rest ∙ sym (append_assoc bs new (replicate (size - length (bs ++ new)) 0))))

-- the first part of a page of zeros
pub first : (size k : ℕ) (new : List ℕ) → k ≡ length new → new ++ post_of 0 k (replicate size 0) ≡ new ++ replicate (size - length new) 0
first size k new n = ap (λ x. new ++ x) (fewer k size _ (ap (λ m. size - m) n))
