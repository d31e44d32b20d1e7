-- What a page of a checkpoint says, by its number.
use Rattle.std.proofs.Common.{◌≡◌, ℕ, zero, suc, ◌+◌, ◌-◌, ◌*◌, ◌<◌, ◌≤◌, Bool, true, false, ltb, List, [], ◌∷◌, ◌++◌, map, length, get_or, take, drop, refl, ap, ◌∙◌, suc-mul, arith, drop-drop}
use lib.ListN.{get_or-append}
use Rattle.std.proofs.lemmas.Bool.{ltb-true, ltb-false}
use Rattle.meaning.specs.Lines.{pick}
use Rattle.journal_rows.specs.Layout.{Op, some_legs, some_fares, some_bookings, packs, leg_pages, fare_pages, booking_pages}
use Rattle.journal_house.specs.Right.{ByNumber}
use Rattle.journal_house.proofs.Checkpoint.{length_packs, length-map, checkpoint_pages}

-- a handful by its number
packs_at : {X : Type 0} (k n : ℕ) (xs : List X) (j : ℕ) (z : List X) → j < n → get_or (packs k n xs) j z ≡ take k (drop (j * k) xs)
unfolding packs
packs_at k zero xs j z a = absurd (omega arith)
packs_at k (suc n) xs zero z a = let q : 0 * k ≡ 0 = omega arith in rw q
packs_at k (suc n) xs (suc j) z a =
    let q : suc j * k ≡ k + j * k = suc-mul j k ∙ omega arith in
    rw q (packs_at k n (drop k xs) j z (omega arith) ∙ ap (take k) (drop-drop (j * k) k xs))

map_at : {X Y : Type 0} (f : X → Y) (xs : List X) (j : ℕ) (y : Y) (z : X) → j < length xs → get_or (map f xs) j y ≡ f (get_or xs j z)
map_at f [] j y z a = absurd (omega arith)
map_at f (x ∷ xs) zero y z a = refl
map_at f (x ∷ xs) (suc j) y z a = map_at f xs j y z (omega arith)

right_at : {X : Type 0} (xs ys : List X) (j : ℕ) (z : X) → length xs ≤ j → get_or (xs ++ ys) j z ≡ get_or ys (j - length xs) z
right_at [] ys j z a = let q : j - 0 ≡ j = omega arith in rw q
right_at (x ∷ xs) ys zero z a = absurd (omega arith)
right_at (x ∷ xs) ys (suc j) z a = let q : suc j - suc (length xs) ≡ j - length xs = omega arith in rw q (right_at xs ys j z (omega arith))

-- handfuls made pages
packed_at : {X : Type 0} (f : List X → Op) (k n : ℕ) (xs : List X) (j : ℕ) (o : Op) → j < n → get_or (map f (packs k n xs)) j o ≡ f (take k (drop (j * k) xs))
packed_at f k n xs j o a = let e = length_packs k n xs in map_at f (packs k n xs) j o [] (omega arith) ∙ ap f (packs_at k n xs j [] a)

packed_length : {X : Type 0} (f : List X → Op) (k n : ℕ) (xs : List X) → length (map f (packs k n xs)) ≡ n
packed_length f k n xs = length-map f (packs k n xs) ∙ length_packs k n xs

-- A CHECKPOINT'S PAGE BY ITS NUMBER
pub by_number : ByNumber
by_number h j o lt = go (ltb j a) (ltb (j - a) b) refl refl
  where
    a : ℕ
    a = leg_pages (length h.legs)

    b : ℕ
    b = fare_pages (length h.fares)

    c : ℕ
    c = booking_pages (length h.bookings)

    ls : List Op
    ls = map some_legs (packs 4 a h.legs)

    fs : List Op
    fs = map some_fares (packs 25 b h.fares)

    bs : List Op
    bs = map some_bookings (packs 8 c h.bookings)

    la : length ls ≡ a
    la = packed_length some_legs 4 a h.legs

    lb : length fs ≡ b
    lb = packed_length some_fares 25 b h.fares

    past : a ≤ j → get_or (ls ++ (fs ++ bs)) j o ≡ get_or (fs ++ bs) (j - a) o
    past p = right_at ls (fs ++ bs) j o (omega (arith, la)) ∙ ap (λ n. get_or (fs ++ bs) (j - n) o) la

    total : j < a + (b + c)
    total = let e = checkpoint_pages h in omega arith

    go : (s t : Bool) → ltb j a ≡ s → ltb (j - a) b ≡ t →
        get_or (ls ++ (fs ++ bs)) j o ≡ pick s (some_legs (take 4 (drop (j * 4) h.legs))) (pick t (some_fares (take 25 (drop ((j - a) * 25) h.fares))) (some_bookings (take 8 (drop (((j - a) - b) * 8) h.bookings))))
    go true t p q = let v = ltb-true j a p in get_or-append ls (fs ++ bs) o j (omega (arith, la)) ∙ packed_at some_legs 4 a h.legs j o v
    go false true p q = let u = ltb-false j a p in let v = ltb-true (j - a) b q in past u ∙ get_or-append fs bs o (j - a) (omega (arith, lb)) ∙ packed_at some_fares 25 b h.fares (j - a) o v
    go false false p q =
        let u = ltb-false j a p in let v = ltb-false (j - a) b q in
        past u ∙ right_at fs bs (j - a) o (omega (arith, lb)) ∙ ap (λ n. get_or bs ((j - a) - n) o) lb ∙ packed_at some_bookings 8 c h.bookings ((j - a) - b) o (omega (arith, total))
