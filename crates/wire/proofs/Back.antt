-- What was encoded is decoded, and what was decoded is encoded.
use Rattle.std.proofs.Common.{◌≡◌, ℕ, zero, suc, ◌+◌, ◌*◌, ◌<◌, ◌≤◌, Bool, true, false, List, [], ◌∷◌, ◌++◌, length, get_or, take, drop, replicate, sym, refl, ap, ◌∙◌, subst, ⊎_elim, append_assoc, append-nil, arith, lit<, lit≤, length-append, length-drop}
use Rattle.std.proofs.lemmas.List.{drop_all, drop_at, get_or_at, take_all, take-append-drop, drop_more, length-take-le}
use Rattle.std.proofs.lemmas.Bool.{cases_lt, cases_order, lt-ltb, ltb-true, and_parts, and_from}
use Rattle.meaning.specs.Calls.{Call, opens, garbled, call_number}
use Rattle.meaning.specs.Promise.{field, all_fields, short, readable}
use Rattle.protocol.specs.Forms.{fields, listing, field_count, has_list, made}
use Rattle.protocol.proofs.Fields.{Written, written, readable_made}
use Rattle.protocol.proofs.Numbers.{each_call, few_fields}
use Rattle.protocol.proofs.Wholes.{nothing_lost}
use Rattle.wire.specs.Bytes.{bytes_of, number_of, row_of, numbers_in, Bytes}
use Rattle.wire.specs.Rows.{CanBeWritten, in_bytes, encoded, list_at, extent, decoded}
use Rattle.wire.specs.Theorems.{CallsComeBack, BytesComeBack, CallsFit, NoneAlike, CallsWithin, MostBytes}
use Rattle.wire.proofs.Fields.{numbers_length, row_length, number_back, bytes_back}
use Rattle.wire.proofs.Decoding.{list_at_listed, list_at_plain, extent_listed, extent_plain, decoded_empty, decoded_unknown, decoded_short, decoded_long, decoded_whole}
use Rattle.wire.proofs.Encoding.{in_bytes_listed, in_bytes_plain}

-- numbers in a row are read from it, whatever stands behind
numbers_back : (ns rest : List ℕ) → all_fields ns ≡ true → take (length ns) (numbers_in (row_of 4 ns ++ rest)) ≡ ns
unfolding all_fields row_of bytes_of numbers_in
numbers_back [] rest a = refl
numbers_back (n ∷ ns) rest a =
    let (x, xs) = and_parts (field n) (all_fields ns) a in
    let e : number_of (bytes_of 4 n) ≡ n = number_back 4 n (ltb-true n 4294967296 x) in
    ap (λ m. m ∷ take (length ns) (numbers_in (row_of 4 ns ++ rest))) e ∙ ap (λ l. n ∷ l) (numbers_back ns rest xs)

numbers_all : (ns : List ℕ) → all_fields ns ≡ true → numbers_in (row_of 4 ns) ≡ ns
unfolding all_fields row_of bytes_of numbers_in
numbers_all [] a = refl
numbers_all (n ∷ ns) a =
    let (x, xs) = and_parts (field n) (all_fields ns) a in
    let e : number_of (bytes_of 4 n) ≡ n = number_back 4 n (ltb-true n 4294967296 x) in
    ap (λ m. m ∷ numbers_in (row_of 4 ns)) e ∙ ap (λ l. n ∷ l) (numbers_all ns xs)

-- a row without a list is read as it was written
plain_back : (k : ℕ) (fs : List ℕ) → k ≤ 10 → length fs ≡ field_count k → all_fields fs ≡ true → false ≡ has_list k → made k fs [] ≡ decoded (k ∷ row_of 4 fs)
unfolding numbers_in
plain_back k fs le n a h =
    let bs : List ℕ = k ∷ row_of 4 fs in
    let long : length (row_of 4 fs) ≡ 4 * field_count k = row_length 4 fs ∙ ap (λ m. 4 * m) n in
    let x : extent k bs ≡ 1 + 4 * field_count k = extent_plain k _ bs refl h in
    let p : list_at k ≡ 1 + 4 * field_count k = list_at_plain k _ refl h in
    let f : take (field_count k) (numbers_in (row_of 4 fs)) ≡ fs = ap (λ m. take m (numbers_in (row_of 4 fs))) (sym n) ∙ (ap (λ w. take (length fs) (numbers_in w)) (sym (append-nil (row_of 4 fs))) ∙ numbers_back fs [] a) in
    let d : numbers_in (drop (list_at k) bs) ≡ [] = ap numbers_in (drop_all (list_at k) bs (omega arith)) in
    ap (λ l. made k fs l) (sym d) ∙ (ap (λ l. made k l (numbers_in (drop (list_at k) bs))) (sym f) ∙ decoded_whole bs k (omega arith) refl le (omega arith))

-- and one with a list
listed_back : (k : ℕ) (fs list : List ℕ) → k ≤ 10 → length fs ≡ field_count k → all_fields fs ≡ true → all_fields list ≡ true → true ≡ has_list k →
    made k fs list ≡ decoded ((k ∷ row_of 4 fs) ++ (length list ∷ row_of 4 list))
listed_back k fs list le n a b h =
    let head : List ℕ = k ∷ row_of 4 fs in
    let bs : List ℕ = head ++ (length list ∷ row_of 4 list) in
    let long : length (row_of 4 fs) ≡ 4 * field_count k = row_length 4 fs ∙ ap (λ m. 4 * m) n in
    let row : length (row_of 4 list) ≡ 4 * length list = row_length 4 list in
    let count : get_or bs (1 + 4 * field_count k) 0 ≡ length list = get_or_at head (length list) (row_of 4 list) 0 (1 + 4 * field_count k) (omega arith) in
    let x : extent k bs ≡ 1 + 4 * field_count k + 1 + 4 * get_or bs (1 + 4 * field_count k) 0 = extent_listed k _ bs refl h in
    let p : list_at k ≡ 2 + 4 * field_count k = list_at_listed k _ refl h in
    let whole : length bs ≡ length head + suc (length (row_of 4 list)) = length-append head (length list ∷ row_of 4 list) in
    let f : take (field_count k) (numbers_in (drop 1 bs)) ≡ fs = ap (λ m. take m (numbers_in (drop 1 bs))) (sym n) ∙ numbers_back fs (length list ∷ row_of 4 list) a in
    let front : length (head ++ (length list ∷ [])) ≡ list_at k = length-append head (length list ∷ []) ∙ omega arith in
    let d : numbers_in (drop (list_at k) bs) ≡ list =
    ap (λ w. numbers_in (drop (list_at k) w)) (sym (append_assoc head (length list ∷ []) (row_of 4 list))) ∙ (ap numbers_in (drop_at (head ++ (length list ∷ [])) (row_of 4 list) (list_at k) front) ∙ numbers_all list b) in
    ap (λ l. made k fs l) (sym d) ∙ (ap (λ l. made k l (numbers_in (drop (list_at k) bs))) (sym f) ∙ decoded_whole bs k (omega arith) refl le (omega arith))

pub calls_come_back : CallsComeBack
unfolding encoded
calls_come_back c w = go (has_list (call_number c)) refl
  where
    s : Written c
    s = written c w.fits

    go : (b : Bool) → b ≡ has_list (call_number c) → decoded (in_bytes (call_number c) (fields c) (listing c)) ≡ c
    go true h =
        let k = nothing_lost c w.is_call in
        ap decoded (in_bytes_listed (call_number c) (fields c) (listing c) h)
        ∙ (sym (listed_back (call_number c) (fields c) (listing c) w.is_call k.counted s.numbers s.list h) ∙ k.back)
    go false h =
        let k = nothing_lost c w.is_call in
        ap decoded (in_bytes_plain (call_number c) (fields c) (listing c) h)
        ∙ (sym (plain_back (call_number c) (fields c) w.is_call k.counted s.numbers h) ∙ (ap (λ l. made (call_number c) (fields c) l) (sym (k.unlisted (sym h))) ∙ k.back))

pub none_alike : NoneAlike
none_alike c d v w e = sym (calls_come_back c v) ∙ (ap decoded e ∙ calls_come_back d w)

-- so the first numbers of a row are written as its first bytes
row_take : (n : ℕ) (w : List ℕ) → Bytes w → 4 * n ≤ length w → row_of 4 (take n (numbers_in w)) ≡ take (4 * n) w
unfolding row_of numbers_in Bytes
row_take zero w b h = refl
row_take (suc n) [] b h = absurd (omega arith)
row_take (suc n) (x ∷ []) b h = absurd (omega arith)
row_take (suc n) (x ∷ (y ∷ [])) b h = absurd (omega arith)
row_take (suc n) (x ∷ (y ∷ (z ∷ []))) b h = absurd (omega arith)
row_take (suc n) (x ∷ (y ∷ (z ∷ (v ∷ w)))) b h =
    let e : 4 * suc n ≡ suc (suc (suc (suc (4 * n)))) = omega arith in
    let u : bytes_of 4 (number_of (x ∷ (y ∷ (z ∷ (v ∷ []))))) ≡ x ∷ (y ∷ (z ∷ (v ∷ []))) = bytes_back (x ∷ (y ∷ (z ∷ (v ∷ [])))) (b.0, (b.1.0, (b.1.1.0, (b.1.1.1.0, tt)))) in
    rw (e, u, row_take n w b.1.1.1.1 (omega arith))

-- and all of them as all
row_all : (w : List ℕ) (n : ℕ) → Bytes w → length w ≡ 4 * n → row_of 4 (numbers_in w) ≡ w
row_all w n b e =
    let l : length (numbers_in w) ≡ n = numbers_length w ∙ omega arith in
    ap (row_of 4) (sym (take_all n (numbers_in w) (omega arith))) ∙ (row_take n w b (omega arith) ∙ take_all (4 * n) w (omega arith))

-- what is a byte at every place is bytes
pub bytes_from : (w : List ℕ) → ((i : ℕ) → get_or w i 0 < 256) → Bytes w
unfolding Bytes
bytes_from [] h = tt
bytes_from (x ∷ w) h = (h 0, bytes_from w (λ i. h (suc i)))

-- parts of bytes are bytes
bytes_drop : (n : ℕ) (w : List ℕ) → Bytes w → Bytes (drop n w)
unfolding Bytes
bytes_drop zero w b = b
bytes_drop (suc n) [] b = tt
bytes_drop (suc n) (x ∷ w) b = bytes_drop n w b.1

byte_at : (n : ℕ) (w : List ℕ) → Bytes w → get_or w n 0 < 256
unfolding Bytes
byte_at n [] b = lit< tt
byte_at zero (x ∷ w) b = b.0
byte_at (suc n) (x ∷ w) b = byte_at n w b.1

-- numbers of four bytes fit a field
fields_from : (w : List ℕ) → Bytes w → all_fields (numbers_in w) ≡ true
unfolding numbers_in Bytes all_fields
fields_from [] b = refl
fields_from (x ∷ []) b = refl
fields_from (x ∷ (y ∷ [])) b = refl
fields_from (x ∷ (y ∷ (z ∷ []))) b = refl
fields_from (x ∷ (y ∷ (z ∷ (v ∷ w)))) b =
    and_from _ _ (lt-ltb _ 4294967296 (let (p, q) = b in let (r, s) = q in let (t, u) = s in omega (arith, b.0, b.1.0, b.1.1.0, b.1.1.1.0))) (fields_from w b.1.1.1.1)

fields_take : (n : ℕ) (ns : List ℕ) → all_fields ns ≡ true → all_fields (take n ns) ≡ true
unfolding all_fields
fields_take zero ns a = refl
fields_take (suc n) [] a = refl
fields_take (suc n) (x ∷ ns) a = let (p, q) = and_parts (field x) (all_fields ns) a in and_from _ _ p (fields_take n ns q)

-- as many numbers as there should be
one_of : (fs : List ℕ) → length fs ≡ 1 → get_or fs 0 0 ∷ [] ≡ fs
one_of [] e = absurd (omega arith)
one_of (a ∷ []) e = refl
one_of (a ∷ (b ∷ fs)) e = absurd (omega arith)

two_of : (fs : List ℕ) → length fs ≡ 2 → get_or fs 0 0 ∷ (get_or fs 1 0 ∷ []) ≡ fs
two_of [] e = absurd (omega arith)
two_of (a ∷ fs) e = ap (λ l. a ∷ l) (one_of fs (omega arith))

four_of : (fs : List ℕ) → length fs ≡ 4 → get_or fs 0 0 ∷ (get_or fs 1 0 ∷ (get_or fs 2 0 ∷ (get_or fs 3 0 ∷ []))) ≡ fs
four_of [] e = absurd (omega arith)
four_of (a ∷ []) e = absurd (omega arith)
four_of (a ∷ (b ∷ fs)) e = ap (λ l. a ∷ (b ∷ l)) (two_of fs (omega arith))

five_of : (fs : List ℕ) → length fs ≡ 5 → get_or fs 0 0 ∷ (get_or fs 1 0 ∷ (get_or fs 2 0 ∷ (get_or fs 3 0 ∷ (get_or fs 4 0 ∷ [])))) ≡ fs
five_of [] e = absurd (omega arith)
five_of (a ∷ fs) e = ap (λ l. a ∷ l) (four_of fs (omega arith))

-- the bytes of a call that was made of its parts
encoded_made : (k : ℕ) → k ≤ 10 → (fs list : List ℕ) → length fs ≡ field_count k → encoded (made k fs list) ≡ in_bytes k fs list
unfolding encoded in_bytes call_number
encoded_made = each_call (λ k. (fs list : List ℕ) → length fs ≡ field_count k → encoded (made k fs list) ≡ in_bytes k fs list)
    (λ fs list e. ap (λ l. in_bytes 0 l list) (four_of fs e))
    (λ fs list e. ap (λ l. in_bytes 1 l list) (five_of fs e))
    (λ fs list e. ap (λ l. in_bytes 2 l list) (two_of fs e))
    (λ fs list e. ap (λ l. in_bytes 3 l list) (one_of fs e))
    (λ fs list e. ap (λ l. in_bytes 4 l list) (one_of fs e))
    (λ fs list e. ap (λ l. in_bytes 5 l list) (one_of fs e))
    (λ fs list e. ap (λ l. in_bytes 6 l list) (one_of fs e))
    (λ fs list e. ap (λ l. in_bytes 7 l list) (two_of fs e))
    (λ fs list e. ap (λ l. in_bytes 8 l list) (one_of fs e))
    (λ fs list e. ap (λ l. in_bytes 9 l list) (one_of fs e))
    (λ fs list e. ap (λ l. in_bytes 10 l list) (one_of fs e))

-- a row that is a call: as long as it should be, and made of its numbers and its list
pub record Whole (bs : List ℕ) (k : ℕ) : Type 0 where
  pub some_byte : 0 < length bs
  pub first : k ≡ get_or bs 0 0
  pub known : k ≤ 10
  pub long : length bs ≡ extent k bs

-- no call can't be read
pub no_call : (c : Call) (n : ℕ) {A : Type 0} → garbled n ≡ c → call_number c ≤ 10 → A
unfolding call_number
no_call c n e h = let z : call_number c ≡ 255 = ap call_number (sym e) in absurd (omega arith)

pub whole_row : (bs : List ℕ) → call_number (decoded bs) ≤ 10 → Whole bs (get_or bs 0 0)
whole_row [] h = no_call (decoded []) 0 (decoded_empty [] 0 refl refl) h
whole_row (k ∷ bs) h = ⊎_elim unknown known (cases_lt 10 k)
  where
    unknown : 10 < k → Whole (k ∷ bs) k
    unknown l = no_call _ 0 (decoded_unknown (k ∷ bs) k 0 (omega arith) refl l refl) h

    known : k ≤ 10 → Whole (k ∷ bs) k
    known l =
        ⊎_elim
        (λ e. record { some_byte = omega arith; first = refl; known = l; long = e })
        (λ o. ⊎_elim (λ p. no_call _ _ (decoded_short (k ∷ bs) k _ (omega arith) refl l p refl) h) (λ p. no_call _ _ (decoded_long (k ∷ bs) k _ (omega arith) refl l p refl) h) o)
        (cases_order (length (k ∷ bs)) (extent k (k ∷ bs)))

-- the numbers of such a row, and its list
abbrev fields_in : ℕ → List ℕ → List ℕ
fields_in k rest = take (field_count k) (numbers_in rest)

abbrev list_in : ℕ → List ℕ → List ℕ
list_in k rest = numbers_in (drop (list_at k) (k ∷ rest))

-- what is known of them, with a list and without
pub record RowParts (k : ℕ) (rest : List ℕ) : Type 0 where
  pub numbers : length (fields_in k rest) ≡ field_count k
  pub few : length (list_in k rest) < 256
  pub back : in_bytes k (fields_in k rest) (list_in k rest) ≡ k ∷ rest

row_parts : (k : ℕ) (rest : List ℕ) → Bytes rest → Whole (k ∷ rest) k → RowParts k rest
row_parts k rest b w = go (has_list k) refl
  where
    n : ℕ
    n = field_count k

    go : (t : Bool) → t ≡ has_list k → RowParts k rest
    go false h =
        let x : extent k (k ∷ rest) ≡ 1 + 4 * field_count k = extent_plain k _ (k ∷ rest) refl h in
        let p : list_at k ≡ 1 + 4 * field_count k = list_at_plain k _ refl h in
        let l : length rest ≡ 4 * field_count k = let z = w.long in omega arith in
        let m : length (numbers_in rest) ≡ field_count k = numbers_length rest ∙ omega arith in
        record {
          numbers = length-take-le (field_count k) (numbers_in rest) (omega arith);
          few = let z = numbers_length (drop (list_at k) (k ∷ rest)) in let y = length-drop (list_at k) (k ∷ rest) in omega arith;
          back = in_bytes_plain k (fields_in k rest) (list_in k rest) h ∙ ap (λ r. k ∷ r) (row_take (field_count k) rest b (omega arith) ∙ take_all (4 * field_count k) rest (omega arith));
        }
    go true h =
        let count : ℕ = get_or rest (4 * field_count k) 0 in
        let at : 1 + 4 * field_count k ≡ suc (4 * field_count k) = omega arith in
        let same : get_or (k ∷ rest) (1 + 4 * field_count k) 0 ≡ count = ap (λ i. get_or (k ∷ rest) i 0) at in
        let x : extent k (k ∷ rest) ≡ 1 + 4 * field_count k + 1 + 4 * get_or (k ∷ rest) (1 + 4 * field_count k) 0 = extent_listed k _ (k ∷ rest) refl h in
        let p : list_at k ≡ 2 + 4 * field_count k = list_at_listed k _ refl h in
        let l : length rest ≡ 4 * field_count k + 1 + 4 * count = let z = w.long in omega arith in
        let m : field_count k ≤ length (numbers_in rest) = let z = numbers_length rest in omega arith in
        let q : list_at k ≡ suc (4 * field_count k + 1) = omega arith in
        let part : drop (list_at k) (k ∷ rest) ≡ drop (4 * field_count k + 1) rest = ap (λ i. drop i (k ∷ rest)) q in
        let long : length (drop (list_at k) (k ∷ rest)) ≡ 4 * count = length-drop (list_at k) (k ∷ rest) ∙ omega arith in
        let counted : length (list_in k rest) ≡ count = numbers_length (drop (list_at k) (k ∷ rest)) ∙ omega arith in
        let list : row_of 4 (list_in k rest) ≡ drop (4 * field_count k + 1) rest = row_all (drop (list_at k) (k ∷ rest)) count (subst Bytes (sym part) (bytes_drop (4 * field_count k + 1) rest b)) long ∙ part in
        let head : row_of 4 (fields_in k rest) ≡ take (4 * field_count k) rest = row_take (field_count k) rest b (omega arith) in
        record {
          numbers = length-take-le (field_count k) (numbers_in rest) m;
          few = let z = byte_at (4 * field_count k) rest b in omega arith;
          back = in_bytes_listed k (fields_in k rest) (list_in k rest) h
              ∙ (ap (λ r. (k ∷ r) ++ (length (list_in k rest) ∷ row_of 4 (list_in k rest))) head
              ∙ (ap (λ r. (k ∷ take (4 * field_count k) rest) ++ (r ∷ row_of 4 (list_in k rest))) counted
              ∙ (ap (λ r. (k ∷ take (4 * field_count k) rest) ++ (count ∷ r)) list
              ∙ ap (λ r. k ∷ r) (ap (λ r. take (4 * field_count k) rest ++ r) (sym (drop_more rest (4 * field_count k) 0 (omega arith))) ∙ take-append-drop (4 * field_count k) rest))));
        }

-- such a row is the call of its parts
made_of : (k : ℕ) (rest : List ℕ) → Whole (k ∷ rest) k → decoded (k ∷ rest) ≡ made k (fields_in k rest) (list_in k rest)
made_of k rest w = sym (decoded_whole (k ∷ rest) k w.some_byte w.first w.known w.long)

pub bytes_come_back : BytesComeBack
unfolding Bytes
bytes_come_back [] b h = no_call (decoded []) 0 (decoded_empty [] 0 refl refl) h
bytes_come_back (k ∷ rest) b h =
    let w = whole_row (k ∷ rest) h in
    let p = row_parts k rest b.1 w in
    ap encoded (made_of k rest w) ∙ (encoded_made k w.known (fields_in k rest) (list_in k rest) p.numbers ∙ p.back)

pub calls_fit : CallsFit
unfolding Bytes
calls_fit [] b h = no_call (decoded []) 0 (decoded_empty [] 0 refl refl) h
calls_fit (k ∷ rest) b h =
    let w = whole_row (k ∷ rest) h in
    let p = row_parts k rest b.1 w in
    let f = fields_take (field_count k) (numbers_in rest) (fields_from rest b.1) in
    let s : short (list_in k rest) ≡ true = and_from _ _ (lt-ltb _ 256 p.few) (fields_from (drop (list_at k) (k ∷ rest)) (bytes_drop (list_at k) (k ∷ rest) b)) in
    record { fits = ap readable (made_of k rest w) ∙ readable_made k w.known (fields_in k rest) (list_in k rest) f s; is_call = h }

-- calls that end in a list have at most four numbers before it
few_before : (k : ℕ) → k ≤ 10 → true ≡ has_list k → field_count k ≤ 4
few_before = each_call (λ k. true ≡ has_list k → field_count k ≤ 4)
    (λ h. lit≤ tt) never (λ h. lit≤ tt) (λ h. lit≤ tt) (λ h. lit≤ tt) (λ h. lit≤ tt) (λ h. lit≤ tt) (λ h. lit≤ tt) (λ h. lit≤ tt) (λ h. lit≤ tt) (λ h. lit≤ tt)
  where
    never : true ≡ false → 5 ≤ 4
    never h = let z : ◌≡◌ {A = ℕ} 0 1 = cc in absurd (omega arith)

calls_within : CallsWithin 1038
unfolding encoded
calls_within c w = go (has_list (call_number c)) refl
  where
    s : Written c
    s = written c w.fits

    go : (b : Bool) → b ≡ has_list (call_number c) → length (in_bytes (call_number c) (fields c) (listing c)) ≤ 1038
    go true h =
        let e = ap length (in_bytes_listed (call_number c) (fields c) (listing c) h) in
        let a = length-append (call_number c ∷ row_of 4 (fields c)) (length (listing c) ∷ row_of 4 (listing c)) in
        let f = row_length 4 (fields c) in
        let l = row_length 4 (listing c) in
        let n = (nothing_lost c w.is_call).counted in
        let m = few_before (call_number c) w.is_call h in
        let q = s.count in
        omega arith
    go false h =
        let e = ap length (in_bytes_plain (call_number c) (fields c) (listing c) h) in
        let f = row_length 4 (fields c) in
        let n = (nothing_lost c w.is_call).counted in
        let m = few_fields (call_number c) w.is_call in
        omega arith

-- a call with a list of 255
longest : Call
longest = opens 0 0 0 0 (replicate 255 0)

longest_length : length (encoded longest) ≡ 1038
unfolding encoded in_bytes call_number longest
longest_length =
    let f = row_length 4 (0 ∷ (0 ∷ (0 ∷ (0 ∷ [])))) in
    let l = row_length 4 (replicate 255 0) in
    let a = length-append (row_of 4 (0 ∷ (0 ∷ (0 ∷ (0 ∷ []))))) (255 ∷ row_of 4 (replicate 255 0)) in
    omega arith

longest_fits : CanBeWritten longest
unfolding longest readable all_fields call_number
longest_fits = record { fits = refl; is_call = lit≤ tt }

pub most_bytes : MostBytes 1038
most_bytes = record { enough = calls_within; least = λ m h. let z = h longest longest_fits in let y = longest_length in omega arith }
