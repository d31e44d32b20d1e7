-- What memory means after each change, and that it stays sound.
use Rattle.std.proofs.Common.{◌≡◌, ℕ, ◌+◌, ◌*◌, ◌<◌, ◌≤◌, Bool, true, false, ◌&&◌, leb, ◌⊎◌, List, [], ◌∷◌, ◌++◌, length, get_or, take, set, sym, refl, ap, ◌∙◌, subst, inl, inr, arith}
use Rattle.std.proofs.lemmas.Bool.{cases_eq, cases_Bool, le-leb}
use Rattle.meaning.specs.Lines.{pick}
use Rattle.meaning.specs.Lines as lines
use Rattle.meaning.specs.House.{goes, taken}
use Rattle.meaning.specs.House as houses
use Rattle.meaning.specs.Calls.{the_booking, with_limits}
use Rattle.meaning.proofs.Serve.{none, at}
use Rattle.meaning.proofs.Room.{counts, taken_set, taken_push}
use Rattle.records.specs.declared.Booking.{Booking}
use Rattle.records.specs.declared.Leg.{Leg}
use Rattle.records.specs.declared.Fare.{Fare}
use Rattle.records.specs.Means.{leg_means, fare_means, booking_means}
use Rattle.records.specs.Words.{leg_in, fare_in, booking_in}
use Rattle.counts.specs.Counts.{count_in, counted, share, Ready, CanTake, CanGive, Recounted}
use Rattle.counts.proofs.Journeys.{goes_tells, goes_has}
use Rattle.store.specs.Range.{FineLeg, FineFare, FineBooking}
use Rattle.store.specs.Words.{Words, legs_of, fares_of, bookings_of, house_of, SoundWords}
use Rattle.store.specs.Whole.{plus_leg, plus_fare, plus_booking, set_booking, set_limits, settled}
use Rattle.store.proofs.Lists.{length_legs, length_fares, length_bookings, at_bookings, legs_same, legs_push, legs_set, fares_push, bookings_push, bookings_set}
use Rattle.store.proofs.Takens.{taken_few, taken_has, taken_off}

-- the bookings that words mean
abbrev pub bookings_in : Words → List houses.Booking
bookings_in w = bookings_of w.bookings w.sums w.booked

-- the same booking, standing otherwise, until another tick, with another sum paid
abbrev pub standing : Booking → ℕ → ℕ → ℕ → Booking
standing b s u p = record { class = b.class; seats = b.seats; stands = s; until = u; count = b.count; legs = b.legs; paid = p }

module _ (w : Words) (s : SoundWords w) where
  many : length (bookings_in w) ≡ w.booked
  many = length_bookings w.bookings w.sums w.booked

  -- a booking on legs that are there
  abbrev Fine : Booking → Type 0
  Fine b = FineBooking (length (legs_of w.legs w.opened)) b

  fine_in : (b : Booking) → Fine b → FineBooking w.opened b
  fine_in b f = subst (λ (n : ℕ). FineBooking n b) (length_legs w.legs w.opened) f

  -- the words of a leg, a fare and a booking that is there, or for which there is space
  pub leg_there : (i : ℕ) → i < length (legs_of w.legs w.opened) → i * 128 + 128 ≤ length w.legs
  leg_there i h = omega (arith, h, length_legs w.legs w.opened, s.opened, s.legs_fit)

  pub leg_space : length (legs_of w.legs w.opened) < w.limits.legs → w.opened * 128 + 128 ≤ length w.legs
  leg_space h = omega (arith, h, length_legs w.legs w.opened, s.legs_fit)

  pub fare_there : (k : ℕ) → k < length (fares_of w.fares w.filed) → k * 24 + 24 ≤ length w.fares
  fare_there k h = omega (arith, h, length_fares w.fares w.filed, s.filed, s.fares_fit)

  pub fare_space : length (fares_of w.fares w.filed) < w.limits.fares → w.filed * 24 + 24 ≤ length w.fares
  fare_space h = omega (arith, h, length_fares w.fares w.filed, s.fares_fit)

  pub booking_there : (k : ℕ) → k < length (bookings_in w) → k * 22 + 22 ≤ length w.bookings
  booking_there k h = omega (arith, h, many, s.booked, s.bookings_fit)

  pub sum_there : (k : ℕ) → k < length (bookings_in w) → k < length w.sums
  sum_there k h = omega (arith, h, many, s.booked, s.sums_fit)

  pub booking_space : length (bookings_in w) < w.limits.bookings → w.booked * 22 + 22 ≤ length w.bookings
  booking_space h = omega (arith, h, many, s.bookings_fit)

  pub sum_space : length (bookings_in w) < w.limits.bookings → w.booked < length w.sums
  sum_space h = omega (arith, h, many, s.sums_fit)

  pub ready : (b : Booking) → Fine b → Ready w.legs b
  ready b f = record { class = f.class; few = f.few; there = λ x l. leg_there (get_or b.legs x 0) (f.there x l); apart = f.apart }

  -- at most nine seats for each of a million bookings
  pub few_taken : (i c : ℕ) → i < w.opened → c < 26 → count_in w.legs i c ≤ 9000000
  few_taken i c h l =
      let t = taken_few (bookings_in w) i c (λ k m. subst (λ (b : houses.Booking). b.seats ≤ 9) (sym (at_bookings w.bookings w.sums w.booked k none (omega (arith, many)))) (s.bookings k (omega (arith, many))).seats) in
      omega (arith, t, s.counts i c h l, s.booked, s.limits.5, many)

  -- a booking that stands otherwise is as fine
  pub standing_fine : (b : Booking) (st u p : ℕ) → Fine b → st ≤ 3 → Fine (standing b st u p)
  standing_fine b st u p f g = record { class = f.class; some = f.some; seats = f.seats; any = f.any; few = f.few; there = f.there; apart = f.apart; stands = g }

  pub can_take : (b : Booking) → Fine b → CanTake w.legs b
  can_take b f x c l m = omega (arith, few_taken (get_or b.legs x 0) c ((fine_in b f).there x l) (omega (arith, f.class)), f.seats)

  -- a booking that is there, as it was loaded, and otherwise stored
  module _ (k : ℕ) (there : k < length (bookings_in w)) (b : Booking) (fine : Fine b) (e : booking_means b ≡ the_booking (house_of w) k) where
    h : k < w.booked
    h = omega (arith, there, many)

    fi : FineBooking w.opened b
    fi = fine_in b fine

    counts_is : (i c : ℕ) → counts (at (bookings_in w) k) i c ≡ share b (counted b.stands) i c
    counts_is i c = ap (λ (z : houses.Booking). counts z i c) (sym e)

    pub can_give : length b.legs ≡ 8 → counted b.stands ≡ true → CanGive w.legs b
    can_give n q x c l m =
        let y : goes (take b.count b.legs) (get_or b.legs x 0) ≡ true = goes_has b.legs b.count x (get_or b.legs x 0) l (omega (arith, fi.few)) refl in
        let z : leb c b.class ≡ true = le-leb c b.class m in
        let o : share b (counted b.stands) (get_or b.legs x 0) c ≡ b.seats = λ d. pick (q d && (y d && z d)) b.seats 0 in
        omega (arith, o, counts_is (get_or b.legs x 0) c, taken_has (bookings_in w) k (get_or b.legs x 0) c (omega (arith, many)), s.counts (get_or b.legs x 0) c (fi.there x l) (omega (arith, fi.class)))

    module _ (st u p : ℕ) (legs bookings sums : List ℕ) (t v : Bool) (et : t ≡ counted b.stands) (ev : v ≡ counted st) (r : Recounted w.legs legs (standing b st u p) t v)
        (is : booking_in bookings sums k ≡ standing b st u p) (f : (j : ℕ) → (j ≡ k → ⊥) → booking_in bookings sums j ≡ booking_in w.bookings w.sums j)
        (ll : length legs ≡ length w.legs) (lb : length bookings ≡ length w.bookings) (ls : length sums ≡ length w.sums) (g : st ≤ 3) where
      abbrev pub stood : Words
      stood = record { legs = legs; fares = w.fares; bookings = bookings; sums = sums; opened = w.opened; filed = w.filed; booked = w.booked; clock = w.clock; limits = w.limits }

      now_bookings : bookings_in stood ≡ set (bookings_in w) k (booking_means (standing b st u p))
      now_bookings = bookings_set w.bookings bookings w.sums sums w.booked k (standing b st u p) h is f

      pub stood_house : house_of stood ≡ set_booking (house_of w) k (settled (the_booking (house_of w) k) st u p)
      stood_house =
          let q = now_bookings ∙ ap (λ (z : houses.Booking). set (bookings_in w) k (settled z st u p)) e in
          let o = legs_same w.legs legs w.opened r.legs in
          λ d. record { now = w.clock; gap = w.limits.gap; hold_for = w.limits.hold; legs = o d; fares = fares_of w.fares w.filed; bookings = q d }

      now_fine : (j : ℕ) → j < w.booked → FineBooking w.opened (booking_in bookings sums j)
      now_fine j l = elim (cases_eq j k) [
        | inl q ↦ subst (λ (z : ℕ). FineBooking w.opened (booking_in bookings sums z)) (sym q)
            (subst (λ (z : Booking). FineBooking w.opened z) (sym is) (fine_in (standing b st u p) (standing_fine b st u p fine g)))
        | inr ne ↦ subst (λ (z : Booking). FineBooking w.opened z) (sym (f j ne)) (s.bookings j l)
      ]

      pub stood_sound : SoundWords stood
      stood_sound = record {
        limits = s.limits;
        clock = s.clock;
        legs_fit = omega (arith, s.legs_fit);
        fares_fit = s.fares_fit;
        bookings_fit = omega (arith, s.bookings_fit);
        sums_fit = omega (arith, s.sums_fit);
        opened = s.opened;
        filed = s.filed;
        booked = s.booked;
        legs = λ i l. subst FineLeg (sym (r.legs i)) (s.legs i l);
        fares = s.fares;
        bookings = now_fine;
        counts = λ i c l m.
            let a = r.counts i c (omega arith) in
            let d = taken_set (bookings_in w) k (booking_means (standing b st u p)) i c (omega (arith, many)) in
            omega (arith, a, d, counts_is i c, ap (λ (z : Bool). share b z i c) et, ap (λ (z : Bool). share b z i c) ev, s.counts i c l m, ap (λ (z : List houses.Booking). taken z i c) now_bookings);
      }

  -- one booking more
  module _ (b : Booking) (legs bookings sums : List ℕ) (fine : Fine b) (v : Bool) (ev : v ≡ counted b.stands) (r : Recounted w.legs legs b false v)
      (e : booking_in bookings sums w.booked ≡ b) (f : (j : ℕ) → (j ≡ w.booked → ⊥) → booking_in bookings sums j ≡ booking_in w.bookings w.sums j)
      (ll : length legs ≡ length w.legs) (lb : length bookings ≡ length w.bookings) (ls : length sums ≡ length w.sums) (space : length (bookings_in w) < w.limits.bookings)
      (n : ℕ) (one : n ≡ w.booked + 1) where
    fb : FineBooking w.opened b
    fb = fine_in b fine

    fits : w.booked < w.limits.bookings
    fits = omega (arith, space, many)

    abbrev pub more : Words
    more = record { legs = legs; fares = w.fares; bookings = bookings; sums = sums; opened = w.opened; filed = w.filed; booked = n; clock = w.clock; limits = w.limits }

    more_bookings : bookings_in more ≡ bookings_in w ++ (booking_means b ∷ [])
    more_bookings = ap (λ (z : ℕ). bookings_of bookings sums z) one ∙ bookings_push w.bookings bookings w.sums sums w.booked b e f

    pub more_house : house_of more ≡ plus_booking (house_of w) (booking_means b)
    more_house =
        let o = legs_same w.legs legs w.opened r.legs in
        λ d. record { now = w.clock; gap = w.limits.gap; hold_for = w.limits.hold; legs = o d; fares = fares_of w.fares w.filed; bookings = more_bookings d }

    pub more_sound : SoundWords more
    more_sound = record {
      limits = s.limits;
      clock = s.clock;
      legs_fit = omega (arith, s.legs_fit);
      fares_fit = s.fares_fit;
      bookings_fit = omega (arith, s.bookings_fit);
      sums_fit = omega (arith, s.sums_fit);
      opened = s.opened;
      filed = s.filed;
      booked = omega (arith, fits, one);
      legs = λ i l. subst FineLeg (sym (r.legs i)) (s.legs i l);
      fares = s.fares;
      bookings = λ j l. elim (cases_eq j w.booked) [
        | inl x ↦ subst (λ (y : ℕ). FineBooking w.opened (booking_in bookings sums y)) (sym x) (subst (λ (y : Booking). FineBooking w.opened y) (sym e) fb)
        | inr ne ↦ (let o : (j ≡ w.booked → ⊥) = ne in subst (λ (y : Booking). FineBooking w.opened y) (sym (f j ne)) (s.bookings j (omega arith)))
      ];
      counts = λ i c l q.
          let a = r.counts i c (omega arith) in
          let d = taken_push (bookings_in w) (booking_means b) i c in
          omega (arith, a, d, ap (λ (z : Bool). share b z i c) ev, s.counts i c l q, ap (λ (z : List houses.Booking). taken z i c) more_bookings);
    }

  -- one leg more
  module _ (g : Leg) (legs : List ℕ) (fi : FineLeg g) (e : leg_in legs w.opened ≡ g) (no : (c : ℕ) → c < 26 → count_in legs w.opened c ≡ 0)
      (f : (j : ℕ) → (j ≡ w.opened → ⊥) → leg_in legs j ≡ leg_in w.legs j) (co : (j c : ℕ) → (j ≡ w.opened → ⊥) → c < 26 → count_in legs j c ≡ count_in w.legs j c)
      (ll : length legs ≡ length w.legs) (space : length (legs_of w.legs w.opened) < w.limits.legs) where
    fits_leg : w.opened < w.limits.legs
    fits_leg = omega (arith, space, length_legs w.legs w.opened)

    abbrev pub longer : Words
    longer = record { legs = legs; fares = w.fares; bookings = w.bookings; sums = w.sums; opened = w.opened + 1; filed = w.filed; booked = w.booked; clock = w.clock; limits = w.limits }

    pub longer_house : house_of longer ≡ plus_leg (house_of w) (leg_means g)
    longer_house = λ d. record { now = w.clock; gap = w.limits.gap; hold_for = w.limits.hold; legs = legs_push w.legs legs w.opened g e f d; fares = fares_of w.fares w.filed; bookings = bookings_in w }

    off_new : (k : ℕ) → k < length (bookings_in w) → goes (at (bookings_in w) k).legs w.opened ≡ false
    off_new k l =
        let h : k < w.booked = omega (arith, many) in
        subst (λ (y : houses.Booking). goes y.legs w.opened ≡ false) (sym (at_bookings w.bookings w.sums w.booked k none h)) (go (cases_Bool _) (s.bookings k h))
      where
        go : {x : Booking} → (goes (take x.count x.legs) w.opened ≡ true) ⊎ (goes (take x.count x.legs) w.opened ≡ false) → FineBooking w.opened x → goes (take x.count x.legs) w.opened ≡ false
        go {x} (inl t) y = let o = goes_tells x.legs x.count w.opened t in absurd (omega (arith, y.there o.0 o.1, o.2))
        go {x} (inr t) y = t

    pub longer_sound : SoundWords longer
    longer_sound = record {
      limits = s.limits;
      clock = s.clock;
      legs_fit = omega (arith, s.legs_fit);
      fares_fit = s.fares_fit;
      bookings_fit = s.bookings_fit;
      sums_fit = s.sums_fit;
      opened = omega (arith, fits_leg);
      filed = s.filed;
      booked = s.booked;
      legs = λ i l. elim (cases_eq i w.opened) [
        | inl x ↦ subst (λ (y : ℕ). FineLeg (leg_in legs y)) (sym x) (subst FineLeg (sym e) fi)
        | inr ne ↦ (let o : (i ≡ w.opened → ⊥) = ne in subst FineLeg (sym (f i ne)) (s.legs i (omega arith)))
      ];
      fares = s.fares;
      bookings = λ k l. (let y = s.bookings k l in record { class = y.class; some = y.some; seats = y.seats; any = y.any; few = y.few; there = λ x h. omega (arith, y.there x h); apart = y.apart; stands = y.stands });
      counts = λ i c l n. elim (cases_eq i w.opened) [
        | inl x ↦ subst (λ (y : ℕ). count_in legs y c ≡ taken (bookings_in w) y c) (sym x) (no c n ∙ sym (taken_off (bookings_in w) w.opened c off_new))
        | inr ne ↦ (let o : (i ≡ w.opened → ⊥) = ne in co i c ne n ∙ s.counts i c (omega arith) n)
      ];
    }

  -- another leg in the place of leg i, what is taken as it was
  module _ (i : ℕ) (there : i < length (legs_of w.legs w.opened)) (g : Leg) (legs : List ℕ) (fi : FineLeg g) (e : leg_in legs i ≡ g) (f : (j : ℕ) → (j ≡ i → ⊥) → leg_in legs j ≡ leg_in w.legs j)
      (co : (j c : ℕ) → c < 26 → count_in legs j c ≡ count_in w.legs j c) (ll : length legs ≡ length w.legs) where
    below : i < w.opened
    below = omega (arith, there, length_legs w.legs w.opened)

    abbrev pub limited : Words
    limited = record { legs = legs; fares = w.fares; bookings = w.bookings; sums = w.sums; opened = w.opened; filed = w.filed; booked = w.booked; clock = w.clock; limits = w.limits }

    pub limited_house : (ls : List ℕ) → leg_means g ≡ with_limits (lines.leg (house_of w).legs i) ls → house_of limited ≡ set_limits (house_of w) i ls
    limited_house ls m =
        let q = legs_set w.legs legs w.opened i g below e f ∙ ap (λ (z : lines.Leg). set (legs_of w.legs w.opened) i z) m in
        λ d. record { now = w.clock; gap = w.limits.gap; hold_for = w.limits.hold; legs = q d; fares = fares_of w.fares w.filed; bookings = bookings_in w }

    pub limited_sound : SoundWords limited
    limited_sound = record {
      limits = s.limits;
      clock = s.clock;
      legs_fit = omega (arith, s.legs_fit);
      fares_fit = s.fares_fit;
      bookings_fit = s.bookings_fit;
      sums_fit = s.sums_fit;
      opened = s.opened;
      filed = s.filed;
      booked = s.booked;
      legs = λ j l. elim (cases_eq j i) [
        | inl x ↦ subst (λ (y : ℕ). FineLeg (leg_in legs y)) (sym x) (subst FineLeg (sym e) fi)
        | inr ne ↦ subst FineLeg (sym (f j ne)) (s.legs j l)
      ];
      fares = s.fares;
      bookings = s.bookings;
      counts = λ j c l n. co j c n ∙ s.counts j c l n;
    }

  -- one fare more
  module _ (g : Fare) (fares : List ℕ) (fi : FineFare g) (e : fare_in fares w.filed ≡ g) (f : (j : ℕ) → (j ≡ w.filed → ⊥) → fare_in fares j ≡ fare_in w.fares j)
      (lf : length fares ≡ length w.fares) (space : length (fares_of w.fares w.filed) < w.limits.fares) where
    fits_fare : w.filed < w.limits.fares
    fits_fare = omega (arith, space, length_fares w.fares w.filed)

    abbrev pub filed_more : Words
    filed_more = record { legs = w.legs; fares = fares; bookings = w.bookings; sums = w.sums; opened = w.opened; filed = w.filed + 1; booked = w.booked; clock = w.clock; limits = w.limits }

    pub filed_more_house : house_of filed_more ≡ plus_fare (house_of w) (fare_means g)
    filed_more_house = λ d. record { now = w.clock; gap = w.limits.gap; hold_for = w.limits.hold; legs = legs_of w.legs w.opened; fares = fares_push w.fares fares w.filed g e f d; bookings = bookings_in w }

    pub filed_more_sound : SoundWords filed_more
    filed_more_sound = record {
      limits = s.limits;
      clock = s.clock;
      legs_fit = s.legs_fit;
      fares_fit = omega (arith, s.fares_fit);
      bookings_fit = s.bookings_fit;
      sums_fit = s.sums_fit;
      opened = s.opened;
      filed = omega (arith, fits_fare);
      booked = s.booked;
      legs = s.legs;
      fares = λ k l. elim (cases_eq k w.filed) [
        | inl x ↦ subst (λ (y : ℕ). FineFare (fare_in fares y)) (sym x) (subst FineFare (sym e) fi)
        | inr ne ↦ (let o : (k ≡ w.filed → ⊥) = ne in subst FineFare (sym (f k ne)) (s.fares k (omega arith)))
      ];
      bookings = s.bookings;
      counts = s.counts;
    }
