-- Rows written over: one behind the other is both at once.
use Rattle.std.proofs.Common.{◌≡◌, ℕ, suc, ◌+◌, ◌*◌, ◌/◌, ◌%◌, ◌<◌, ◌≤◌, List, [], ◌∷◌, ◌++◌, length, get_or, take, drop, map, set, sym, ap, ◌∙◌, append_assoc, mul-le-mul_left, arith, length-append}
use borrow.Rule.Slice.PartMut.{put_mid}
use native.Mathlib.Nat.{div-div-eq-div-mul}
use Rattle.std.proofs.lemmas.List.{length-map, map-id, drop-drop, take-append-drop, length-take-le, take_at, drop_at, set_split, map_more}
use Rattle.wire.specs.Bytes.{bytes_of, row_of, over}
use Rattle.wire.proofs.Fields.{bytes_length, row_length, row_push}

-- nothing written
pub over_none : (at : ℕ) (old : List ℕ) → over at [] old ≡ old
unfolding over
over_none at old = ap (λ n. take at old ++ drop n old) (native.Mathlib.Nat.add-zero at) ∙ take-append-drop at old

-- a part lent and filled
pub over_part : (at k : ℕ) (old new : List ℕ) → length new ≡ k → put_mid at k old new ≡ over at new old
unfolding over
over_part at k old new e = ap (λ x. take at old ++ (new ++ x)) (drop-drop k at old ∙ ap (λ n. drop (at + n) old) (sym e))

-- one byte
pub over_byte : (at : ℕ) (b : ℕ) (old : List ℕ) → at < length old → set old at b ≡ over at (b ∷ []) old
unfolding over
over_byte at b old h = let e : suc at ≡ at + 1 = omega arith in set_split old at b h ∙ ap (λ n. take at old ++ (b ∷ drop n old)) e

-- a second row right behind the first
pub over_more : (at here : ℕ) (a b old : List ℕ) → at + length a ≤ length old → here ≡ at + length a → over here b (over at a old) ≡ over at (a ++ b) old
unfolding over
over_more at here a b old h e =
    let n : length (take at old) ≡ at = length-take-le at old (omega arith) in
    let p : length (take at old ++ a) ≡ here = length-append (take at old) a ∙ omega arith in
    let w : over at a old ≡ (take at old ++ a) ++ drop here old = ap (λ m. take at old ++ (a ++ drop m old)) (sym e) ∙ sym (append_assoc (take at old) a (drop here old)) in
    let q : here + length b ≡ at + length (a ++ b) = let z = length-append a b in omega arith in
    let f : take here (over at a old) ≡ take at old ++ a = ap (take here) w ∙ take_at (take at old ++ a) (drop here old) here p in
    let g : drop (here + length b) (over at a old) ≡ drop (at + length (a ++ b)) old =
    sym (drop-drop (length b) here (over at a old)) ∙ (ap (λ x. drop (length b) x) (ap (drop here) w ∙ drop_at (take at old ++ a) (drop here old) here p) ∙ (drop-drop (length b) here old ∙ ap (λ m. drop m old) q)) in
    ap (λ x. x ++ (b ++ drop (here + length b) (over at a old))) f
    ∙ (append_assoc (take at old) a (b ++ drop (here + length b) (over at a old))
    ∙ ap (λ x. take at old ++ x) (sym (append_assoc a b (drop (here + length b) (over at a old))) ∙ ap (λ x. (a ++ b) ++ x) g))

-- the same of what was written in two steps
pub then_more : (at here : ℕ) (a b old mid new : List ℕ) → at + length a ≤ length old → mid ≡ over at a old → new ≡ over here b mid → here ≡ at + length a → new ≡ over at (a ++ b) old
then_more at here a b old mid new h m n e = n ∙ (ap (λ x. over here b x) m ∙ over_more at here a b old h e)

-- the four bytes of a number, as the code has them
pub four_bytes : (n : ℕ) → (n % 256) ∷ ((n / 256 % 256) ∷ ((n / 65536 % 256) ∷ ((n / 16777216 % 256) ∷ []))) ≡ bytes_of 4 n
unfolding bytes_of
four_bytes n =
    let a : n / 65536 % 256 ≡ n / 256 / 256 % 256 = omega arith in
    let b : n / 16777216 % 256 ≡ n / 256 / 256 / 256 % 256 = omega arith in
    rw (a, b)

-- numbers of the code are their own values
pub same_row : (width : ℕ) (ns : List ℕ) → row_of width (map (λ n. n) ns) ≡ row_of width ns
same_row width ns = ap (row_of width) (map-id ns)

-- from the front on it is the new row and what stood behind
pub over_front : (new old : List ℕ) → over 0 new old ≡ new ++ drop (length new) old
unfolding over
over_front new old = ap (λ n. new ++ drop n old) (native.Mathlib.Nat.zero-add (length new))

-- one more of the numbers of a row, whatever their width: the step of the loop that writes them
pub row_more : {X : Type 0} (value : X → ℕ) (width at place k i : ℕ) (xs : List X) (x : X) (old out new : List ℕ) → i < length xs → at + width * length xs ≤ length old → x ≡ get_or xs i x → new ≡ bytes_of width (value x) →
    out ≡ over at (row_of width (map value (take i xs))) old → k ≡ width → place ≡ at + width * i → put_mid place k out new ≡ over at (row_of width (map value (take (i + 1) xs))) old
row_more value width at place k i xs x old out new lt fits e b o w p =
    let ns : List ℕ = map value (take i xs) in
    let t : length ns ≡ i = length-map (take i xs) value ∙ length-take-le i xs (omega arith) in
    let long : length (row_of width ns) ≡ width * i = row_length width ns ∙ ap (λ m. width * m) t in
    let below : width * i ≤ width * length xs = mul-le-mul_left width (omega arith) in
    let more : map value (take (i + 1) xs) ≡ ns ++ (value x ∷ []) = map_more value xs i x lt ∙ ap (λ y. ns ++ (value y ∷ [])) (sym e) in
    then_more at place (row_of width ns) (bytes_of width (value x)) old out _ (omega arith) o (over_part place k out new (ap length b ∙ (bytes_length width (value x) ∙ sym w)) ∙ ap (λ y. over place y out) b) (omega arith)
    ∙ ap (λ y. over at y old) (sym (row_push width ns (value x)) ∙ ap (row_of width) (sym more))

-- and the eight bytes of a longer one
pub eight_bytes : (n : ℕ) →
    (n % 256) ∷ ((n / 256 % 256) ∷ ((n / 65536 % 256) ∷ ((n / 16777216 % 256) ∷ ((n / 4294967296 % 256) ∷ ((n / 1099511627776 % 256) ∷ ((n / 281474976710656 % 256) ∷ ((n / 72057594037927936 % 256) ∷ []))))))) ≡ bytes_of 8 n
unfolding bytes_of
eight_bytes n =
    let a : n / 256 / 256 ≡ n / 65536 = div-div-eq-div-mul n 256 256 in
    let b : n / 256 / 256 / 256 ≡ n / 16777216 = ap (λ m. m / 256) a ∙ div-div-eq-div-mul n 65536 256 in
    let c : n / 256 / 256 / 256 / 256 ≡ n / 4294967296 = ap (λ m. m / 256) b ∙ div-div-eq-div-mul n 16777216 256 in
    let d : n / 256 / 256 / 256 / 256 / 256 ≡ n / 1099511627776 = ap (λ m. m / 256) c ∙ div-div-eq-div-mul n 4294967296 256 in
    let e : n / 256 / 256 / 256 / 256 / 256 / 256 ≡ n / 281474976710656 = ap (λ m. m / 256) d ∙ div-div-eq-div-mul n 1099511627776 256 in
    let f : n / 256 / 256 / 256 / 256 / 256 / 256 / 256 ≡ n / 72057594037927936 = ap (λ m. m / 256) e ∙ div-div-eq-div-mul n 281474976710656 256 in
    cc
