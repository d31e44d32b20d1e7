-- A checkpoint says the house: its pages done one after the other, from the house that its head says, come to it. How many pages it has, and that it fits a slot.
use Rattle.std.proofs.Common.{◌≡◌, ℕ, zero, suc, ◌+◌, ◌*◌, ◌/◌, ◌<◌, ◌≤◌, List, [], ◌∷◌, ◌++◌, map, length, drop, refl, ap, ◌∙◌, append_assoc, append-nil, suc-mul, arith, length-append, length-drop, take-append-drop, length-take}
use Rattle.meaning.specs.Lines.{Leg, Fare}
use Rattle.meaning.specs.House.{Booking, House}
use Rattle.meaning.specs.Calls.{Limits}
use Rattle.journal.specs.Slots.{did, AllOf}
use Rattle.journal_rows.specs.Layout.{Op, some_legs, some_fares, some_bookings, op_done, packs, leg_pages, fare_pages, booking_pages, checkpoint, head, opened, pages, FineLeg, FineFare, FineBooking, Fine, Good, most_pages, slot_blocks}
use Rattle.journal_rows.proofs.Every.{all_join, all_take, all_drop, all_map, all_from}

-- handfuls: how many, what is in each, and all together
pub length_packs : {X : Type 0} (k n : ℕ) (xs : List X) → length (packs k n xs) ≡ n
unfolding packs
length_packs k zero xs = refl
length_packs k (suc n) xs = ap suc (length_packs k n (drop k xs))

all_packs : {X : Type 0} (P : X → Type 0) (k n : ℕ) (xs : List X) → AllOf P xs → AllOf (λ ys. (length ys ≤ k) × AllOf P ys) (packs k n xs)
unfolding packs AllOf
all_packs P k zero xs a = tt
all_packs P k (suc n) xs a = ((let w = length-take k xs in omega arith, all_take P k xs a), all_packs P k n (drop k xs) (all_drop P k xs a))

unfoldable joined : {X : Type 0} → List (List X) → List X
joined [] = []
joined (ys ∷ yss) = ys ++ joined yss

joined_packs : {X : Type 0} (k n : ℕ) (xs : List X) → length xs ≤ n * k → joined (packs k n xs) ≡ xs
unfolding packs joined
joined_packs k zero [] h = refl
joined_packs k zero (x ∷ xs) h = let z : 0 * k ≡ 0 = omega arith in absurd (omega arith)
joined_packs k (suc n) xs h =
    let z : suc n * k ≡ n * k + k = suc-mul n k in
    let v = length-drop k xs in
    rw (joined_packs k n (drop k xs) (omega arith)) (take-append-drop k xs)

-- pages of a checkpoint done one after the other
did-++ : (l : Limits) (h : House) (xs ys : List Op) → did (op_done l) h (xs ++ ys) ≡ did (op_done l) (did (op_done l) h xs) ys
unfolding did
did-++ l h [] ys = refl
did-++ l h (x ∷ xs) ys = did-++ l (op_done l h x) xs ys

abbrev mk : ℕ → ℕ → ℕ → List Leg → List Fare → List Booking → House
mk n g o ls fs bs = record { now = n; gap = g; hold_for = o; legs = ls; fares = fs; bookings = bs }

did_legs : (l : Limits) (n g o : ℕ) (ls : List Leg) (fs : List Fare) (bs : List Booking) (xs : List (List Leg)) → did (op_done l) (mk n g o ls fs bs) (map some_legs xs) ≡ mk n g o (ls ++ joined xs) fs bs
unfolding did joined
did_legs l n g o ls fs bs [] = rw (append-nil ls)
did_legs l n g o ls fs bs (x ∷ xs) = did_legs l n g o (ls ++ x) fs bs xs ∙ rw (append_assoc ls)

did_fares : (l : Limits) (n g o : ℕ) (ls : List Leg) (fs : List Fare) (bs : List Booking) (xs : List (List Fare)) → did (op_done l) (mk n g o ls fs bs) (map some_fares xs) ≡ mk n g o ls (fs ++ joined xs) bs
unfolding did joined
did_fares l n g o ls fs bs [] = rw (append-nil fs)
did_fares l n g o ls fs bs (x ∷ xs) = did_fares l n g o ls (fs ++ x) bs xs ∙ rw (append_assoc fs)

did_bookings : (l : Limits) (n g o : ℕ) (ls : List Leg) (fs : List Fare) (bs : List Booking) (xs : List (List Booking)) → did (op_done l) (mk n g o ls fs bs) (map some_bookings xs) ≡ mk n g o ls fs (bs ++ joined xs)
unfolding did joined
did_bookings l n g o ls fs bs [] = rw (append-nil bs)
did_bookings l n g o ls fs bs (x ∷ xs) = did_bookings l n g o ls fs (bs ++ x) xs ∙ rw (append_assoc bs)

-- the handfuls of a checkpoint
abbrev leg_packs : House → List (List Leg)
leg_packs h = packs 4 (leg_pages (length h.legs)) h.legs

abbrev fare_packs : House → List (List Fare)
fare_packs h = packs 25 (fare_pages (length h.fares)) h.fares

abbrev booking_packs : House → List (List Booking)
booking_packs h = packs 8 (booking_pages (length h.bookings)) h.bookings

-- A CHECKPOINT SAYS THE HOUSE
pub checkpoint_is : (l : Limits) (h : House) → Good l h → did (op_done l) (opened l (head h)) (checkpoint h) ≡ h
checkpoint_is l h g =
    did-++ l (mk h.now l.gap l.hold_for [] [] []) (map some_legs (leg_packs h)) _ ∙ rw (did_legs l h.now l.gap l.hold_for [] [] [] (leg_packs h), joined_packs 4 (leg_pages (length h.legs)) h.legs (omega arith))
    (did-++ l (mk h.now l.gap l.hold_for h.legs [] []) (map some_fares (fare_packs h)) _ ∙ rw (did_fares l h.now l.gap l.hold_for h.legs [] [] (fare_packs h), joined_packs 25 (fare_pages (length h.fares)) h.fares (omega arith))
    (did_bookings l h.now l.gap l.hold_for h.legs h.fares [] (booking_packs h) ∙ rw (joined_packs 8 (booking_pages (length h.bookings)) h.bookings (omega arith), g.gap_is, g.hold_is)))

pub length-map : {X Y : Type 0} (f : X → Y) (xs : List X) → length (map f xs) ≡ length xs
length-map f [] = refl
length-map f (x ∷ xs) = ap suc (length-map f xs)

-- it has as many pages as its head says
pub checkpoint_pages : (h : House) → pages (head h) ≡ length (checkpoint h)
checkpoint_pages h = simp (length-append, length-map, length_packs)

-- the largest checkpoint, with a block for the commit record, fits a slot
pub slot_holds : (l : Limits) → 16 + most_pages l ≤ 16 * slot_blocks l
unfolding slot_blocks
slot_holds l = blocks (most_pages l)
  where
    blocks : (p : ℕ) → 16 + p ≤ 16 * (1 + (p + 15) / 16)
    blocks p = omega arith

-- and so does every other
pub checkpoint_short : (l : Limits) (h : House) → Good l h → 16 + length (checkpoint h) ≤ 16 * slot_blocks l
checkpoint_short l h g =
    let a = g.few_legs in let b = g.few_fares in let c = g.few_bookings in let e = checkpoint_pages h in let s = slot_holds l in
    let f : pages (head h) ≤ most_pages l = omega arith in omega arith

-- a booking in range is in range among more legs
pub fine_more : (m n : ℕ) (b : Booking) → m ≤ n → FineBooking m b → FineBooking n b
fine_more m n b h f =
    record { fields = f.fields; there = all_from (λ i. i < m) (λ i. i < n) (λ i p. omega arith) b.legs f.there; apart = f.apart; stands = f.stands; until = f.until; paid = f.paid }

-- what a checkpoint says can be written
pub checkpoint_fine : (l : Limits) (h : House) → Good l h → AllOf Fine (checkpoint h)
checkpoint_fine l h g =
    let few : length h.legs ≤ 65536 = let a = g.few_legs in let b = g.sizes.3 in omega arith in
    let bs : AllOf (FineBooking 65536) h.bookings = all_from (FineBooking (length h.legs)) (FineBooking 65536) (λ b f. fine_more (length h.legs) 65536 b few f) h.bookings g.fine_bookings in
    all_join Fine (map some_legs (leg_packs h)) _ (all_map _ Fine some_legs (λ x f. f) (leg_packs h) (all_packs FineLeg 4 _ h.legs g.fine_legs))
    (all_join Fine (map some_fares (fare_packs h)) _ (all_map _ Fine some_fares (λ x f. f) (fare_packs h) (all_packs FineFare 25 _ h.fares g.fine_fares))
    (all_map _ Fine some_bookings (λ x f. f) (booking_packs h) (all_packs (FineBooking 65536) 8 _ h.bookings bs)))
