-- Time that goes by: the bookings are passed one after the other, and what is over is gone.
use Rattle.std.proofs.Common.{◌≡◌, ℕ, zero, suc, ◌+◌, ◌<◌, Bool, true, false, List, [], ◌∷◌, length, get_or, take, set, sym, refl, ap, ◌∙◌, ap₂, arith}
use Rattle.std.proofs.lemmas.List.{get_or-take}
use Rattle.std.proofs.lemmas.Bool.{lt-ltb}
use Rattle.meaning.specs.Lines.{pick, Leg, leg}
use Rattle.meaning.specs.House.{Booking, House, first_leg, over, run_out, stand, with_bookings}
use Rattle.meaning.specs.Calls.{ticks, number, good_fields, turned_by, changed, told, the_booking}
use Rattle.meaning.proofs.Serve.{at}
use Rattle.limits.specs.declared.Limits.{Limits}
use Rattle.records.specs.Means.{booking_means}
use Rattle.records.specs.declared.Booking as records
use Rattle.store.specs.Whole.{Lent, at_tick, house, set_booking}
use Rattle.store.specs.declared.Memory.{Memory}
use Rattle.store.proofs.Lents.{lent_none, lent_both}
use Rattle.checks.specs.Meant.{Meant}
use Rattle.checks.proofs.Verdicts.{takes}
use Rattle.changes.specs.Steps.{ended, gone_at, then_served, ticks_fit}

-- the first leg of some
pub first_is : (is : List ℕ) → first_leg is ≡ get_or is 0 0
unfolding first_leg
first_is [] = refl
first_is (i ∷ is) = refl

-- the first leg of the front of some
first_of : (n : ℕ) (is : List ℕ) → 0 < n → first_leg (take n is) ≡ get_or is 0 0
first_of n is h = first_is (take n is) ∙ get_or-take n is 0 0 h

-- a booking that is over, by its first leg
pub over_by : (t : ℕ) (ls : List Leg) (b : records.Booking) (d : Booking) (g : Leg) (v : Bool) → 0 < b.count → booking_means b ≡ d → g ≡ leg ls (get_or b.legs 0 0) → v ≡ ended b.stands b.until g.leaves t → v ≡ over t ls d
over_by t ls b d g v h eb eg ev =
    let leaves : g.leaves ≡ (leg ls (first_leg (take b.count b.legs))).leaves = ap (λ (x : Leg). x.leaves) (eg ∙ ap (leg ls) (sym (first_of b.count b.legs h))) in
    ev ∙ ap (λ (x : ℕ). ended b.stands b.until x t) leaves ∙ ap (over t ls) eb

module _ (t : ℕ) (ls : List Leg) where
  -- the bookings where the first k were passed: what is over of them is gone
  unfoldable pub passed : ℕ → List Booking → List Booking
  passed zero bs = bs
  passed (suc k) [] = []
  passed (suc k) (b ∷ bs) = pick (over t ls b) (stand b 3 0) b ∷ passed k bs

  -- the next one is as it was
  passed_at : (k : ℕ) (bs : List Booking) → at (passed k bs) k ≡ at bs k
  unfolding passed
  passed_at zero bs = refl
  passed_at (suc k) [] = refl
  passed_at (suc k) (b ∷ bs) = passed_at k bs

  passed_length : (k : ℕ) (bs : List Booking) → length (passed k bs) ≡ length bs
  unfolding passed
  passed_length zero bs = refl
  passed_length (suc k) [] = refl
  passed_length (suc k) (b ∷ bs) = ap suc (passed_length k bs)

  -- it is over, and gone then
  passed_gone : (k : ℕ) (bs : List Booking) → k < length bs → over t ls (at bs k) ≡ true → set (passed k bs) k (stand (at bs k) 3 0) ≡ passed (suc k) bs
  unfolding passed
  passed_gone k [] h e = absurd (omega arith)
  passed_gone zero (b ∷ bs) h e = ap (λ (v : Bool). pick v (stand b 3 0) b ∷ bs) (sym e)
  passed_gone (suc k) (b ∷ bs) h e = ap (λ (v : List Booking). pick (over t ls b) (stand b 3 0) b ∷ v) (passed_gone k bs (omega arith) e)

  -- it is not, and stays
  passed_stays : (k : ℕ) (bs : List Booking) → k < length bs → over t ls (at bs k) ≡ false → passed k bs ≡ passed (suc k) bs
  unfolding passed
  passed_stays k [] h e = absurd (omega arith)
  passed_stays zero (b ∷ bs) h e = ap (λ (v : Bool). pick v (stand b 3 0) b ∷ bs) (sym e)
  passed_stays (suc k) (b ∷ bs) h e = ap (λ (v : List Booking). pick (over t ls b) (stand b 3 0) b ∷ v) (passed_stays k bs (omega arith) e)

  -- all of them were passed
  passed_all : (bs : List Booking) → passed (length bs) bs ≡ run_out t ls bs
  unfolding passed run_out
  passed_all [] = refl
  passed_all (b ∷ bs) = ap (λ (v : List Booking). pick (over t ls b) (stand b 3 0) b ∷ v) (passed_all bs) ∙ go (over t ls b) (run_out t ls bs)
    where
      go : (v : Bool) (r : List Booking) → ◌≡◌ {A = List Booking} (pick v (stand b 3 0) b ∷ r) (pick v (stand b 3 0 ∷ r) (b ∷ r))
      go true r = refl
      go false r = refl

-- memory m where the first k bookings were passed, at n
pub record Passed (m n : Memory) (t k : ℕ) : Type 0 where
  pub lent : Lent m n
  pub same : house n ≡ with_bookings (house m) (passed t (house m).legs k (house m).bookings)

pub passing_begins : (m : Memory) (t : ℕ) → Passed m m t 0
unfolding passed
passing_begins m t = record { lent = lent_none m; same = refl }

-- there are as many as before
pub passing_length : (m n : Memory) (t k : ℕ) → Passed m n t k → length (house n).bookings ≡ length (house m).bookings
passing_length m n t k w = ap (λ (h : House). length h.bookings) w.same ∙ passed_length t (house m).legs k (house m).bookings

module _ (m n : Memory) (t k : ℕ) (w : Passed m n t k) (q : k < length (house m).bookings) where
  -- the next booking in memory is that of before
  next_same : the_booking (house n) k ≡ the_booking (house m) k
  next_same = ap (λ (h : House). the_booking h k) w.same ∙ passed_at t (house m).legs k (house m).bookings

  over_same : (v : Bool) → v ≡ over t (house n).legs (the_booking (house n) k) → over t (house m).legs (the_booking (house m) k) ≡ v
  over_same v e = sym (e ∙ ap (λ (h : House). over t h.legs (the_booking (house n) k)) w.same ∙ ap (over t (house m).legs) next_same)

  pub passing_gone : (p : Memory) → true ≡ over t (house n).legs (the_booking (house n) k) → house p ≡ set_booking (house n) k (stand (the_booking (house n) k) 3 0) → Lent n p → Passed m p t (k + 1)
  passing_gone p e ep l = record {
    lent = lent_both m n p w.lent l;
    same = ep ∙ ap₂ (λ (h : House) (b : Booking). set_booking h k (stand b 3 0)) w.same next_same
        ∙ ap (with_bookings (house m)) (passed_gone t (house m).legs k (house m).bookings q (over_same true e) ∙ ap (λ (j : ℕ). passed t (house m).legs j (house m).bookings) (omega arith));
  }

  pub passing_stays : false ≡ over t (house n).legs (the_booking (house n) k) → Passed m n t (k + 1)
  passing_stays e = record {
    lent = w.lent;
    same = w.same ∙ ap (with_bookings (house m)) (passed_stays t (house m).legs k (house m).bookings q (over_same false e) ∙ ap (λ (j : ℕ). passed t (house m).legs j (house m).bookings) (omega arith));
  }

pub passing_ends : (m n : Memory) (t k : ℕ) → Passed m n t k → k ≡ length (house m).bookings → house n ≡ gone_at t (house m)
passing_ends m n t k w e = w.same ∙ ap (with_bookings (house m)) (ap (λ (j : ℕ). passed t (house m).legs j (house m).bookings) e ∙ passed_all t (house m).legs (house m).bookings)

module _ (l : Limits) (h : House) (n : ℕ) where
  module _ (g : ticks_fit n ≡ true) where
    pub gone_by : (r t : ℕ) (a b x : House) → t < 16777216 → t ≡ h.now + n → r ≡ t → a ≡ at_tick h t → b ≡ gone_at t a → x ≡ then_served b → Meant l h (ticks n) (number r) x
    unfolding good_fields turned_by told changed
    gone_by r t a b x q et er ea eb ex =
        takes l h (ticks n) (number r) x g (λ can. ap (λ (v : Bool). pick v 0 9) (lt-ltb (h.now + n) 16777216 (omega arith))) (ap number (er ∙ et))
        (ex ∙ ap then_served (eb ∙ ap (gone_at t) ea) ∙ ap (λ (v : ℕ). then_served (gone_at v (at_tick h v))) et)
