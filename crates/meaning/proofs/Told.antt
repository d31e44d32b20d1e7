-- What it says of a call that it is not turned away.
use Rattle.std.proofs.Common.{◌≡◌, ℕ, suc, ◌<◌, ◌≤◌, Bool, true, false, ◌&&◌, eqb, ltb, List, length, refl, arith}
use Rattle.std.proofs.lemmas.Bool.{eqb-true, leb-true, ltb-true, and_parts}
use Rattle.meaning.specs.Lines.{pick, leg, follows}
use Rattle.meaning.specs.House.{House, first_leg}
use Rattle.meaning.specs.Calls.{Call, books, pays, cancels, Limits, turned, turned_by, good_call, good_fields, all_there, no_twice, the_booking}

pick_zero : (t : Bool) (a n : ℕ) → pick t a (suc n) ≡ 0 → (t ≡ true) × (a ≡ 0)
pick_zero true a n e = (refl, e)
pick_zero false a n e = absurd (omega arith)

by_zero : (l : Limits) (h : House) (x : Call) → turned l h x ≡ 0 → (good_fields x ≡ true) × (turned_by l h x ≡ 0)
by_zero l h x e = let p = pick_zero (good_call l x) (turned_by l h x) 1 e in ((and_parts _ _ p.0).1, p.1)

pub pays_ok : (l : Limits) (h : House) (k : ℕ) → turned l h (pays k) ≡ 0 → (k < length h.bookings) × ((the_booking h k).stands ≡ 1)
unfolding turned_by
pays_ok l h k e =
    let p = pick_zero (ltb k (length h.bookings)) _ 6 (by_zero l h (pays k) e).1 in
    (ltb-true _ _ p.0, eqb-true _ _ (pick_zero (eqb (the_booking h k).stands 1) 0 7 p.1).0)

pub cancels_ok : (l : Limits) (h : House) (k : ℕ) → turned l h (cancels k) ≡ 0 → (k < length h.bookings) × ((the_booking h k).stands < 3)
unfolding turned_by
cancels_ok l h k e =
    let p = pick_zero (ltb k (length h.bookings)) _ 6 (by_zero l h (cancels k) e).1 in
    (ltb-true _ _ p.0, ltb-true _ _ (pick_zero (ltb (the_booking h k).stands 3) 0 7 p.1).0)

pub record Bookable (h : House) (c n : ℕ) (is : List ℕ) : Type 0 where
  pub some : 1 ≤ n
  pub there : all_there h.legs c is ≡ true
  pub ahead : h.now < (leg h.legs (first_leg is)).leaves

pub books_ok : (l : Limits) (h : House) (c n : ℕ) (is : List ℕ) → turned l h (books c n is) ≡ 0 → Bookable h c n is
unfolding turned_by good_fields
books_ok l h c n is e =
    let z = by_zero l h (books c n is) e in
    let p = pick_zero (all_there h.legs c is) _ 3 z.1 in
    let q = pick_zero (follows h.legs h.gap is && (no_twice is && ltb h.now (leg h.legs (first_leg is)).leaves)) _ 4 p.1 in
    let g = (and_parts _ _ (and_parts _ _ z.0).0).1 in
    record { some = leb-true _ _ (and_parts _ _ g).0; there = p.0; ahead = ltb-true _ _ (and_parts (no_twice is) _ (and_parts (follows h.legs h.gap is) _ q.0).1).1 }
