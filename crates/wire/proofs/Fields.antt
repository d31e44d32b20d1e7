-- Numbers in fields: how long they are, and that they can be read back.
use Rattle.std.proofs.Common.{◌≡◌, ℕ, zero, suc, ◌+◌, ◌*◌, ◌/◌, ◌%◌, ◌^◌, ◌<◌, ◌≤◌, List, [], ◌∷◌, ◌++◌, length, get_or, drop, sym, refl, ap, ◌∙◌, pow-suc, arith, length-append}
use Rattle.wire.specs.Bytes.{bytes_of, number_of, four_at, row_of, numbers_in, Bytes}

-- how many numbers a row of fields has
pub numbers_length : (w : List ℕ) → length (numbers_in w) ≡ length w / 4
unfolding numbers_in
numbers_length [] = refl
numbers_length (a ∷ []) = refl
numbers_length (a ∷ (b ∷ [])) = refl
numbers_length (a ∷ (b ∷ (c ∷ []))) = refl
numbers_length (a ∷ (b ∷ (c ∷ (d ∷ w)))) = let e = numbers_length w in omega arith

-- the number in one of them
pub numbers_at : (w : List ℕ) (i : ℕ) → i < length w / 4 → get_or (numbers_in w) i 0 ≡ number_of (four_at w (i * 4))
unfolding numbers_in
numbers_at [] i h = absurd (omega arith)
numbers_at (a ∷ []) i h = absurd (omega arith)
numbers_at (a ∷ (b ∷ [])) i h = absurd (omega arith)
numbers_at (a ∷ (b ∷ (c ∷ []))) i h = absurd (omega arith)
numbers_at (a ∷ (b ∷ (c ∷ (d ∷ w)))) zero h = refl
numbers_at (a ∷ (b ∷ (c ∷ (d ∷ w)))) (suc i) h =
    let e1 : suc i * 4 + 1 ≡ suc (suc (suc (suc (i * 4 + 1)))) = omega arith in
    let e2 : suc i * 4 + 2 ≡ suc (suc (suc (suc (i * 4 + 2)))) = omega arith in
    let e3 : suc i * 4 + 3 ≡ suc (suc (suc (suc (i * 4 + 3)))) = omega arith in
    let e0 : suc i * 4 ≡ suc (suc (suc (suc (i * 4)))) = omega arith in
    rw (e1, e2, e3, e0) (numbers_at w i (omega arith))

-- and behind the first byte of a row
pub numbers_behind : (w : List ℕ) (i : ℕ) → 1 + (i * 4 + 4) ≤ length w → get_or (numbers_in (drop 1 w)) i 0 ≡ number_of (four_at w (1 + i * 4))
numbers_behind [] i h = absurd (omega arith)
numbers_behind (a ∷ w) i h =
    let e1 : 1 + i * 4 + 1 ≡ suc (i * 4 + 1) = omega arith in
    let e2 : 1 + i * 4 + 2 ≡ suc (i * 4 + 2) = omega arith in
    let e3 : 1 + i * 4 + 3 ≡ suc (i * 4 + 3) = omega arith in
    let e0 : 1 + i * 4 ≡ suc (i * 4) = omega arith in
    rw (e1, e2, e3, e0) (numbers_at w i (omega arith))

pub bytes_length : (width n : ℕ) → length (bytes_of width n) ≡ width
unfolding bytes_of
bytes_length zero n = refl
bytes_length (suc width) n = ap suc (bytes_length width (n / 256))

pub row_length : (width : ℕ) (ns : List ℕ) → length (row_of width ns) ≡ width * length ns
unfolding row_of
row_length width [] = omega arith
row_length width (n ∷ ns) =
    let e = row_length width ns in
    let b = bytes_length width n in
    let m : width * suc (length ns) ≡ width * length ns + width = native.Mathlib.Nat.mul-suc width (length ns) in
    length-append (bytes_of width n) (row_of width ns) ∙ omega arith

-- one more number at the end of a row
pub row_push : (width : ℕ) (ns : List ℕ) (n : ℕ) → row_of width (ns ++ (n ∷ [])) ≡ row_of width ns ++ bytes_of width n
unfolding row_of
row_push width [] n = mathlib.Core.List.append-nil (bytes_of width n)
row_push width (m ∷ ns) n = ap (λ x. bytes_of width m ++ x) (row_push width ns n) ∙ sym (mathlib.Core.List.append_assoc (bytes_of width m) (row_of width ns) (bytes_of width n))

-- a number that fits a field is read from it
pub number_back : (width n : ℕ) → n < 256 ^ width → number_of (bytes_of width n) ≡ n
unfolding bytes_of
number_back zero n h = omega arith
number_back (suc width) n h =
    let p : 256 ^ suc width ≡ 256 ^ width * 256 = pow-suc 256 width in
    let e : number_of (bytes_of width (n / 256)) ≡ n / 256 = number_back width (n / 256) (omega arith) in
    omega arith

-- and bytes are those of their number
pub bytes_back : (bs : List ℕ) → Bytes bs → bytes_of (length bs) (number_of bs) ≡ bs
unfolding bytes_of Bytes
bytes_back [] b = refl
bytes_back (x ∷ bs) b =
    let p : x < 256 = b.0 in
    let e : (x + 256 * number_of bs) % 256 ≡ x = omega arith in
    let f : (x + 256 * number_of bs) / 256 ≡ number_of bs = omega arith in
    rw (e, f, bytes_back bs b.1)
