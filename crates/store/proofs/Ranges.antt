-- A leg, a fare or a booking is in range if the call that asks for it has its numbers in range: what a layer has checked by the meaning's own test is what memory wants.
use Rattle.std.proofs.Common.{◌≡◌, ℕ, zero, suc, ◌-◌, ◌<◌, ◌≤◌, true, List, [], ◌∷◌, length, get_or, take, replicate, sym, ap, ◌∙◌, subst, arith}
use Rattle.std.proofs.lemmas.List.{length-take-le, length-append, get_or_append_left}
use Rattle.std.proofs.lemmas.Bool.{and_parts, leb-true, ltb-true}
use Rattle.meaning.specs.Lines as lines
use Rattle.meaning.specs.Calls.{opens, files, books, good_fields, good_limits, falling, all_to, all_there, no_twice}
use Rattle.records.specs.declared.Leg.{Leg}
use Rattle.records.specs.declared.Fare.{Fare}
use Rattle.records.specs.declared.Booking.{Booking}
use Rattle.records.specs.Words.{leg_of, booking_of}
use Rattle.records.proofs.News.{unpadded}
use Rattle.store.specs.Range.{FineLeg, FineFare, FineBooking}

-- good limits: how many, falling, and small
pub limits_tell : (ls : List ℕ) → good_limits ls ≡ true → (1 ≤ length ls) × (length ls ≤ 26) × (falling ls ≡ true) × (all_to 1000 ls ≡ true)
limits_tell ls e =
    let p = and_parts _ _ e in
    let a = and_parts _ _ p.0 in
    let b = and_parts _ _ p.1 in
    (leb-true _ _ a.0, leb-true _ _ a.1, b.0, b.1)

-- a leg whose array holds at least its classes' limits
pub leg_fine : (g : Leg) → g.classes ≤ length g.limits → good_fields (opens g.from g.to g.leaves g.arrives (take g.classes g.limits)) ≡ true → FineLeg g
unfolding good_fields
leg_fine g h e =
    let p = and_parts _ _ e in
    let a = and_parts _ _ p.0 in
    let b = and_parts _ _ p.1 in
    let t = and_parts _ _ b.0 in
    let l = limits_tell (take g.classes g.limits) b.1 in
    let n : length (take g.classes g.limits) ≡ g.classes = length-take-le g.classes g.limits h in
    record {
      from = ltb-true _ _ a.0;
      to = ltb-true _ _ a.1;
      leaves = ltb-true _ _ t.0;
      arrives = ltb-true _ _ t.1;
      some = omega (arith, l.0, n);
      classes = omega (arith, l.1, n);
      falling = l.2;
      small = l.3;
    }

-- a new leg
pub new_leg_fine : (a b c d : ℕ) (ls : List ℕ) → good_fields (opens a b c d ls) ≡ true → FineLeg (leg_of a b c d ls)
new_leg_fine a b c d ls e =
    leg_fine (leg_of a b c d ls) (omega (arith, length-append ls (replicate (26 - length ls) 0))) (ap (λ (v : List ℕ). good_fields (opens a b c d v)) (unpadded 26 ls) ∙ e)

-- a fare
pub fare_fine : (f : Fare) → good_fields (files f.origin f.goal f.class f.most f.price) ≡ true → FineFare f
unfolding good_fields
fare_fine f e =
    let p = and_parts _ _ e in
    let a = and_parts _ _ p.0 in
    let b = and_parts _ _ p.1 in
    let c = and_parts _ _ b.0 in
    let m = and_parts _ _ c.1 in
    record {
      origin = ltb-true _ _ a.0;
      goal = ltb-true _ _ a.1;
      class = ltb-true _ _ c.0;
      some = leb-true _ _ m.0;
      most = leb-true _ _ m.1;
      price = leb-true _ _ b.1;
    }

-- a booking whose legs are there, none twice
pub booking_fine : (n : ℕ) (b : Booking) → b.count ≤ length b.legs → good_fields (books b.class b.seats (take b.count b.legs)) ≡ true →
    ((x : ℕ) → x < b.count → get_or b.legs x 0 < n) → no_twice (take b.count b.legs) ≡ true → b.stands ≤ 3 → FineBooking n b
unfolding good_fields
booking_fine n b h e t o s =
    let p = and_parts _ _ e in
    let a = and_parts _ _ p.0 in
    let m = and_parts _ _ a.1 in
    let c = and_parts _ _ p.1 in
    let q : length (take b.count b.legs) ≡ b.count = length-take-le b.count b.legs h in
    let lo : 1 ≤ length (take b.count b.legs) = leb-true _ _ c.0 in
    let hi : length (take b.count b.legs) ≤ 8 = leb-true _ _ c.1 in
    record {
      class = ltb-true _ _ a.0;
      some = leb-true _ _ m.0;
      seats = leb-true _ _ m.1;
      any = omega arith;
      few = omega arith;
      there = t;
      apart = o;
      stands = s;
    }

-- legs that are there have numbers below theirs
pub there_tells : (ls : List lines.Leg) (c : ℕ) (is : List ℕ) → all_there ls c is ≡ true → (x : ℕ) → x < length is → get_or is x 0 < length ls
unfolding all_there
there_tells ls c [] e x h = absurd (omega arith)
there_tells ls c (i ∷ is) e zero h = ltb-true _ _ (and_parts _ _ (and_parts _ _ e).0).0
there_tells ls c (i ∷ is) e (suc x) h = there_tells ls c is (and_parts _ _ e).1 x (omega arith)

-- a new booking
pub new_booking_fine : (ls : List lines.Leg) (c n : ℕ) (is : List ℕ) → good_fields (books c n is) ≡ true → all_there ls c is ≡ true → no_twice is ≡ true → FineBooking (length ls) (booking_of c n is)
new_booking_fine ls c n is e t o =
    booking_fine (length ls) (booking_of c n is) (omega (arith, length-append is (replicate (8 - length is) 0))) (ap (λ (v : List ℕ). good_fields (books c n v)) (unpadded 8 is) ∙ e)
    (λ x h. subst (λ (v : ℕ). v < length ls) (sym (get_or_append_left is (replicate (8 - length is) 0) 0 x h)) (there_tells ls c is t x h)) (ap no_twice (unpadded 8 is) ∙ o) (omega arith)
