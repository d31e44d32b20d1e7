-- A house that a journal can keep stays one after every call, never with fewer records.
use Rattle.std.proofs.Common.{◌≡◌, ℕ, suc, ◌+◌, ◌-◌, ◌*◌, ◌<◌, ◌≤◌, Bool, true, false, ◌&&◌, eqb, ltb, List, [], ◌∷◌, ◌++◌, length, set, refl, ap, ◌∙◌, subst, arith, length-append, length-set}
use Rattle.std.proofs.lemmas.Bool.{and_parts, and_from, ltb-true, eqb-true}
use Rattle.meaning.specs.Lines.{pick, Leg, no_leg, leg, follows, cost}
use Rattle.meaning.specs.House.{Booking, House, with_bookings, first_leg}
use Rattle.meaning.specs.Calls.{Call, opens, files, books, pays, cancels, limits_to, ticks, free, price_of, booking, leg_is, garbled, Limits, turned_by, turned, changed, after, ran, new_house, good_call, the_booking, with_limits, good_fields, good_limits, all_there, no_twice}
use Rattle.meaning.specs.Promise.{GoodLimits, readable}
use Rattle.meaning.specs.Statements.{Reached}
use Rattle.journal.specs.Slots.{AllOf}
use Rattle.journal_rows.specs.Layout.{taken_call, checkpoint, is_change, changes, FineLeg, FineFare, FineBooking, Fine, Good}
use Rattle.journal_rows.proofs.Every.{all_push, all_set, all_from}
use Rattle.journal_rows.proofs.Ranges.{booked_range}
use Rattle.journal_house.proofs.Prices.{paid_most}
use Rattle.journal_house.proofs.Checkpoint.{checkpoint_pages, fine_more}
use Rattle.journal_house.proofs.Served.{all_at, serve_long, run_out_long, fine_stand, serve_fine, run_out_fine}

-- a house that calls lead to, after one more
ran_more : (l : Limits) (h : House) (cs : List Call) (c : Call) → ran l h (cs ++ (c ∷ [])) ≡ after l (ran l h cs) c
unfolding ran
ran_more l h [] c = refl
ran_more l h (x ∷ cs) c = ran_more l (after l h x) cs c

pub reached_after : (l : Limits) (h : House) (c : Call) → Reached l h → Reached l (after l h c)
reached_after l h c r = (r.0 ++ (c ∷ []), ran_more l (new_house l) r.0 c ∙ ap (λ k. after l k c) r.1)

-- a test that passed
pick_zero : (b : Bool) (x n : ℕ) → pick b x (suc n) ≡ 0 → (b ≡ true) × (x ≡ 0)
pick_zero true x n e = (refl, e)
pick_zero false x n e = absurd (omega arith)

pick_not : (b : Bool) (x n : ℕ) → pick b (suc n) x ≡ 0 → x ≡ 0
pick_not true x n e = absurd (omega arith)
pick_not false x n e = e

-- what a booking that is taken says: its legs are there, none twice, and there is room for one more
pub record Bookable (l : Limits) (h : House) (is : List ℕ) : Type 0 where
  pub there : AllOf (λ i. i < length h.legs) is
  pub apart : no_twice is ≡ true
  pub room : length h.bookings < l.bookings

there_from : (ls : List Leg) (c : ℕ) (is : List ℕ) → all_there ls c is ≡ true → AllOf (λ i. i < length ls) is
unfolding all_there AllOf
there_from ls c [] e = tt
there_from ls c (i ∷ is) e =
    let p = and_parts (ltb i (length ls) && ltb c (length (leg ls i).limits)) (all_there ls c is) e in
    (ltb-true i (length ls) (and_parts (ltb i (length ls)) (ltb c (length (leg ls i).limits)) p.0).0, there_from ls c is p.1)

bookable : (l : Limits) (h : House) (c n : ℕ) (is : List ℕ) → turned_by l h (books c n is) ≡ 0 → Bookable l h is
unfolding turned_by
bookable l h c n is z =
    let p = pick_zero (all_there h.legs c is) _ 3 z in
    let q = pick_zero (follows h.legs h.gap is && (no_twice is && ltb h.now (leg h.legs (first_leg is)).leaves)) _ 4 p.1 in
    let f = (and_parts (follows h.legs h.gap is) _ q.0).1 in
    let r = pick_zero (ltb (length h.bookings) l.bookings) 0 8 (pick_not (eqb (cost h.fares h.legs c is) 0) _ 5 q.1) in
    record { there = there_from h.legs c is p.0; apart = (and_parts (no_twice is) _ f).0; room = ltb-true (length h.bookings) l.bookings r.0 }

-- a leg with other limits that are in range is in range
fine_limits : (g : Leg) (ls : List ℕ) → FineLeg g → good_limits ls ≡ true → FineLeg (with_limits g ls)
unfolding good_fields
fine_limits g ls f e =
    let p = and_parts (ltb g.from 65536 && ltb g.to 65536) _ f in
    let q = and_parts (ltb g.leaves g.arrives && ltb g.arrives 16777216) (good_limits g.limits) p.1 in
    and_from _ _ p.0 (and_from _ _ q.0 e)

-- a booking in range that is paid is in range
fine_paid : (n : ℕ) (h : House) (b : Booking) → AllOf FineFare h.fares → FineBooking n b →
    FineBooking n (record { legs = b.legs; class = b.class; seats = b.seats; stands = 2; until = 0; paid = b.seats * (cost h.fares h.legs b.class b.legs - 1) })
fine_paid n h b fs f =
    let r = booked_range b.class b.seats b.legs f.fields in
    record { fields = f.fields; there = f.there; apart = f.apart; stands = omega arith; until = omega arith; paid = paid_most b.seats h.fares h.legs b.class b.legs fs r.seats r.few }

-- the same house with other bookings that are in range
good_bookings : (l : Limits) (h : House) (bs : List Booking) → Good l h → Reached l (with_bookings h bs) → length bs ≤ l.bookings → AllOf (FineBooking (length h.legs)) bs → Good l (with_bookings h bs)
good_bookings l h bs g r few f =
    record {
      sizes = g.sizes;
      reached = r;
      gap_is = g.gap_is;
      hold_is = g.hold_is;
      early = g.early;
      few_legs = g.few_legs;
      few_fares = g.few_fares;
      few_bookings = few;
      fine_legs = g.fine_legs;
      fine_fares = g.fine_fares;
      fine_bookings = f;
    }

-- until when a hold can be
until_small : (l : Limits) (h : House) (now : ℕ) → Good l h → now < 16777216 → now + h.hold_for < 16842752
until_small l h now g e = let a = g.sizes.2 in let b = g.hold_is in omega arith

good_changed : (l : Limits) (h : House) (c : Call) → Good l h → Reached l (changed h c) → good_fields c ≡ true → turned_by l h c ≡ 0 → Good l (changed h c)
unfolding changed turned_by good_fields
good_changed l h (opens a b c d ls) g r gf z =
    let w = pick_zero (ltb h.now c) _ 4 z in
    let f : length h.legs < l.legs = ltb-true (length h.legs) l.legs (pick_zero (ltb (length h.legs) l.legs) 0 8 w.1).0 in
    record {
      sizes = g.sizes;
      reached = r;
      gap_is = g.gap_is;
      hold_is = g.hold_is;
      early = g.early;
      few_legs = simp length-append (omega arith);
      few_fares = g.few_fares;
      few_bookings = g.few_bookings;
      fine_legs = all_push FineLeg h.legs _ g.fine_legs gf;
      fine_fares = g.fine_fares;
      fine_bookings = all_from (FineBooking (length h.legs)) _ (λ x f. fine_more (length h.legs) _ x (simp length-append (omega arith)) f) h.bookings g.fine_bookings;
    }
good_changed l h (files a b c n p) g r gf z =
    let f : length h.fares < l.fares = ltb-true (length h.fares) l.fares (pick_zero (ltb (length h.fares) l.fares) 0 8 z).0 in
    record {
      sizes = g.sizes;
      reached = r;
      gap_is = g.gap_is;
      hold_is = g.hold_is;
      early = g.early;
      few_legs = g.few_legs;
      few_fares = simp length-append (omega arith);
      few_bookings = g.few_bookings;
      fine_legs = g.fine_legs;
      fine_fares = all_push FineFare h.fares _ g.fine_fares gf;
      fine_bookings = g.fine_bookings;
    }
good_changed l h (books c n is) g r gf z =
    let w = bookable l h c n is z in
    let room = w.room in
    good_bookings l h _ g r (simp (serve_long, length-append) (omega arith))
    (serve_fine (length h.legs) _ h.legs _ _ (until_small l h h.now g g.early) (all_push (FineBooking (length h.legs)) h.bookings _ g.fine_bookings
    (record { fields = gf; there = w.there; apart = w.apart; stands = omega arith; until = omega arith; paid = omega arith })))
good_changed l h (pays k) g r gf z =
    let lt : k < length h.bookings = ltb-true k (length h.bookings) (pick_zero (ltb k (length h.bookings)) _ 6 z).0 in
    good_bookings l h _ g r (simp length-set g.few_bookings)
    (all_set (FineBooking (length h.legs)) h.bookings k _ g.fine_bookings (fine_paid (length h.legs) h (the_booking h k) g.fine_fares (all_at (FineBooking (length h.legs)) h.bookings k _ g.fine_bookings lt)))
good_changed l h (cancels k) g r gf z =
    let lt : k < length h.bookings = ltb-true k (length h.bookings) (pick_zero (ltb k (length h.bookings)) _ 6 z).0 in
    good_bookings l h _ g r (simp (serve_long, length-set) g.few_bookings)
    (serve_fine (length h.legs) _ h.legs _ _ (until_small l h h.now g g.early) (all_set (FineBooking (length h.legs)) h.bookings k _ g.fine_bookings
    (fine_stand (length h.legs) (the_booking h k) 3 0 (omega arith) (omega arith) (all_at (FineBooking (length h.legs)) h.bookings k _ g.fine_bookings lt))))
good_changed l h (limits_to i ls) g r gf z =
    let w = pick_zero (ltb i (length h.legs) && eqb (length ls) (length (leg h.legs i).limits)) 0 3 z in
    let lt : i < length h.legs = ltb-true i (length h.legs) (and_parts (ltb i (length h.legs)) _ w.0).0 in
    let n : length (set h.legs i (with_limits (leg h.legs i) ls)) ≡ length h.legs = length-set h.legs i (with_limits (leg h.legs i) ls) in
    record {
      sizes = g.sizes;
      reached = r;
      gap_is = g.gap_is;
      hold_is = g.hold_is;
      early = g.early;
      few_legs = simp length-set g.few_legs;
      few_fares = g.few_fares;
      few_bookings = simp serve_long g.few_bookings;
      fine_legs = all_set FineLeg h.legs i _ g.fine_legs (fine_limits (leg h.legs i) ls (all_at FineLeg h.legs i no_leg g.fine_legs lt) gf);
      fine_fares = g.fine_fares;
      fine_bookings = rw n (serve_fine (length h.legs) _ _ h.bookings _ (until_small l h h.now g g.early) g.fine_bookings);
    }
good_changed l h (ticks n) g r gf z =
    let e : h.now + n < 16777216 = ltb-true (h.now + n) 16777216 (pick_zero (ltb (h.now + n) 16777216) 0 8 z).0 in
    record {
      sizes = g.sizes;
      reached = r;
      gap_is = g.gap_is;
      hold_is = g.hold_is;
      early = e;
      few_legs = g.few_legs;
      few_fares = g.few_fares;
      few_bookings = simp (serve_long, run_out_long) g.few_bookings;
      fine_legs = g.fine_legs;
      fine_fares = g.fine_fares;
      fine_bookings = serve_fine (length h.legs) _ h.legs _ _ (until_small l h (h.now + n) g e) (run_out_fine (length h.legs) (h.now + n) h.legs h.bookings g.fine_bookings);
    }
good_changed l h (free i c) g r gf z = g
good_changed l h (price_of c is) g r gf z = g
good_changed l h (booking k) g r gf z = g
good_changed l h (leg_is i) g r gf z = g
good_changed l h (garbled n) g r gf z = g

-- A HOUSE THAT A JOURNAL CAN KEEP STAYS ONE after every call
pub good_after : (l : Limits) (h : House) (c : Call) → Good l h → Good l (after l h c)
good_after l h c g = go (eqb (turned l h c) 0) refl (reached_after l h c g.reached)
  where
    go : (b : Bool) → eqb (turned l h c) 0 ≡ b → Reached l (pick (eqb (turned l h c) 0) (changed h c) h) → Good l (pick b (changed h c) h)
    go true e r =
        let w = pick_zero (good_call l c) (turned_by l h c) 1 (eqb-true (turned l h c) 0 e) in
        good_changed l h c g (subst (λ (t : Bool). Reached l (pick t (changed h c) h)) e r) (and_parts _ _ w.0).1 w.1
    go false e r = g

-- and so is a house on its first day
pub good_new : (l : Limits) → GoodLimits l → Good l (new_house l)
unfolding AllOf ran
good_new l g =
    record { sizes = g; reached = ([], refl); gap_is = refl; hold_is = refl; early = omega arith; few_legs = omega arith; few_fares = omega arith; few_bookings = omega arith; fine_legs = tt; fine_fares = tt; fine_bookings = tt }

-- a question changes nothing
question_same : (h : House) (c : Call) → is_change c ≡ false → changed h c ≡ h
unfolding changed is_change
question_same h (opens a b c d ls) e = let z : ◌≡◌ {A = ℕ} 0 1 = cc in absurd (omega arith)
question_same h (files a b c n p) e = let z : ◌≡◌ {A = ℕ} 0 1 = cc in absurd (omega arith)
question_same h (books c n is) e = let z : ◌≡◌ {A = ℕ} 0 1 = cc in absurd (omega arith)
question_same h (pays k) e = let z : ◌≡◌ {A = ℕ} 0 1 = cc in absurd (omega arith)
question_same h (cancels k) e = let z : ◌≡◌ {A = ℕ} 0 1 = cc in absurd (omega arith)
question_same h (limits_to i ls) e = let z : ◌≡◌ {A = ℕ} 0 1 = cc in absurd (omega arith)
question_same h (ticks n) e = let z : ◌≡◌ {A = ℕ} 0 1 = cc in absurd (omega arith)
question_same h (free i c) e = refl
question_same h (price_of c is) e = refl
question_same h (booking k) e = refl
question_same h (leg_is i) e = refl
question_same h (garbled n) e = refl

pub unchanged_same : (l : Limits) (h : House) (c : Call) → changes l h c ≡ false → after l h c ≡ h
unchanged_same l h c = go (eqb (turned l h c) 0)
  where
    go : (b : Bool) → (b && is_change c) ≡ false → pick b (changed h c) h ≡ h
    go true e = question_same h c e
    go false e = refl

-- a call that changes something is in range, so that it can be written
pub call_fine : (l : Limits) (h : House) (c : Call) → readable c ≡ true → changes l h c ≡ true → Fine (taken_call c)
call_fine l h c ok ch =
    let both = and_parts (eqb (turned l h c) 0) (is_change c) ch in
    let w = pick_zero (good_call l c) (turned_by l h c) 1 (eqb-true (turned l h c) 0 both.0) in
    (ok, (and_parts _ (good_fields c) w.0).1, both.1)

-- a house never has fewer records than it had
pub record Grown (h k : House) : Type 0 where
  pub legs : length h.legs ≤ length k.legs
  pub fares : length h.fares ≤ length k.fares
  pub bookings : length h.bookings ≤ length k.bookings

same_grown : (h : House) → Grown h h
same_grown h = record { legs = omega arith; fares = omega arith; bookings = omega arith }

grown_changed : (h : House) (c : Call) → Grown h (changed h c)
unfolding changed
grown_changed h (opens a b c d ls) = record { legs = simp length-append (omega arith); fares = omega arith; bookings = omega arith }
grown_changed h (files a b c n p) = record { legs = omega arith; fares = simp length-append (omega arith); bookings = omega arith }
grown_changed h (books c n is) = record { legs = omega arith; fares = omega arith; bookings = simp (serve_long, length-append) (omega arith) }
grown_changed h (pays k) = record { legs = omega arith; fares = omega arith; bookings = simp length-set (omega arith) }
grown_changed h (cancels k) = record { legs = omega arith; fares = omega arith; bookings = simp (serve_long, length-set) (omega arith) }
grown_changed h (limits_to i ls) = record { legs = simp length-set (omega arith); fares = omega arith; bookings = simp serve_long (omega arith) }
grown_changed h (ticks n) = record { legs = omega arith; fares = omega arith; bookings = simp (serve_long, run_out_long) (omega arith) }
grown_changed h (free i c) = same_grown h
grown_changed h (price_of c is) = same_grown h
grown_changed h (booking k) = same_grown h
grown_changed h (leg_is i) = same_grown h
grown_changed h (garbled n) = same_grown h

pub grown_after : (l : Limits) (h : House) (c : Call) → Grown h (after l h c)
grown_after l h c = go (eqb (turned l h c) 0)
  where
    go : (b : Bool) → Grown h (pick b (changed h c) h)
    go true = grown_changed h c
    go false = same_grown h

-- so its checkpoint never has fewer pages than an earlier one
pub longer : (l : Limits) (h : House) (c : Call) → length (checkpoint h) ≤ length (checkpoint (after l h c))
longer l h c = go (after l h c) (grown_after l h c)
  where
    go : (k : House) → Grown h k → length (checkpoint h) ≤ length (checkpoint k)
    go k g = rw (← checkpoint_pages h, ← checkpoint_pages k) (omega arith)
