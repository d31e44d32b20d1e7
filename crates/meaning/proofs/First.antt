-- First come, first served.
use Rattle.std.proofs.Common.{◌≡◌, ℕ, ◌+◌, ◌<◌, ◌≤◌, Bool, true, false, ◌≢◌, List, length, set, sym, refl, ap, ◌∙◌, subst, inl, inr, arith}
use Rattle.std.proofs.lemmas.Bool.{cases_eq, both_ways}
use Rattle.std.proofs.lemmas.List.{get_or_append_left, get_or-set_other}
use Rattle.meaning.specs.Lines.{pick, Leg}
use Rattle.meaning.specs.House.{Booking, House, room, stand, serve, over, run_out}
use Rattle.meaning.specs.Calls.{Call, opens, files, books, pays, cancels, limits_to, ticks, free, price_of, booking, leg_is, garbled, Limits, changed, the_booking}
use Rattle.meaning.specs.Statements.{FirstServed}
use Rattle.meaning.proofs.Serve.{none, at, fits, Next, held, serve_keeps}
use Rattle.meaning.proofs.Each.{set_each, at_run_out, Same, same_refl, same_stand, there}
use Rattle.meaning.proofs.Reach.{after_is}
use Rattle.meaning.proofs.Room.{room_less}

-- the first asks for no more than the second, on the same legs in the same class
pub record Before (a b : Booking) : Type 0 where
  pub legs_same : a.legs ≡ b.legs
  pub class_same : a.class ≡ b.class
  pub no_more : a.seats ≤ b.seats

before_same : (a b c d : Booking) → Same a c → Same b d → Before c d → Before a b
before_same a b c d s t p =
    record { legs_same = s.same_legs ∙ p.legs_same ∙ sym t.same_legs; class_same = s.same_class ∙ p.class_same ∙ sym t.same_class; no_more = omega (arith, s.same_seats, t.same_seats, p.no_more) }

pub before_fits : (ls : List Leg) (bs : List Booking) (a b : Booking) → Before a b → fits ls bs b ≡ true → fits ls bs a ≡ true
before_fits ls bs a b p e =
    subst (λ v. room ls bs v a.class a.seats ≡ true) (sym p.legs_same) (subst (λ v. room ls bs b.legs v a.seats ≡ true) (sym p.class_same)
    (room_less ls bs bs b.legs b.class a.seats b.seats p.no_more (λ _ _. omega arith) e))

pub record Fair (bs : List Booking) (j k : ℕ) : Type 0 where
  order : Before (at bs j) (at bs k)
  fair : (at bs k).stands ≡ 1 → (at bs j).stands ≡ 0 → ⊥

fair_next : (ls : List Leg) (u j k : ℕ) → j < k → (bs : List Booking) (m : ℕ) → Next ls bs bs m → Fair bs j k → Fair (held ls u bs m) j k
fair_next ls u j k h bs m (q, z, r, p) f = record { order = before_same _ _ _ _ (same j) (same k) f.order; fair = go }
  where
    same : (i : ℕ) → Same (at (held ls u bs m) i) (at bs i)
    same i = set_each Same same_refl bs m (stand (at bs m) 1 u) (same_stand (at bs m) 1 u) i

    still : (i : ℕ) → (at (held ls u bs m) i).stands ≡ 0 → (at bs i).stands ≡ 0
    still i = set_each (λ a b. a.stands ≡ 0 → b.stands ≡ 0) (λ _ e. e) bs m (stand (at bs m) 1 u) (λ e. absurd (omega arith)) i

    go : (at (held ls u bs m) k).stands ≡ 1 → (at (held ls u bs m) j).stands ≡ 0 → ⊥
    go e w = elim (cases_eq k m) [
      | inl v ↦ both_ways _ (p j (omega arith) (still j w)) (before_fits ls bs (at bs j) (at bs m) (subst (λ n. Before (at bs j) (at bs n)) v f.order) r)
      | inr v ↦ f.fair (ap (λ (b : Booking). b.stands) (sym (get_or-set_other bs m k (stand (at bs m) 1 u) none v)) ∙ e) (still j w)
    ]

fair_serve : (ls : List Leg) (u n j k : ℕ) (bs : List Booking) → j < k → Fair bs j k → Fair (serve n ls bs u) j k
fair_serve ls u n j k bs h = serve_keeps ls u (λ cs. Fair cs j k) (fair_next ls u j k h) n bs

-- what waits is as it was, and not held
pub record NotHeld (a b : Booking) : Type 0 where
  like : Same a b
  not_one : b.stands ≡ 0 → a.stands ≢ 1

not_held_refl : (b : Booking) → NotHeld b b
not_held_refl b = record { like = same_refl b; not_one = λ e f. omega arith }

not_held_set : (bs : List Booking) (m s u : ℕ) → s ≢ 1 → (k : ℕ) → NotHeld (at (set bs m (stand (at bs m) s u)) k) (at bs k)
not_held_set bs m s u n k = set_each NotHeld not_held_refl bs m (stand (at bs m) s u) (record { like = same_stand (at bs m) s u; not_one = λ _. n }) k

not_held_run_out : (t : ℕ) (ls : List Leg) (bs : List Booking) (k : ℕ) → NotHeld (at (run_out t ls bs) k) (at bs k)
not_held_run_out t ls bs k = subst (λ b. NotHeld b (at bs k)) (sym (at_run_out t ls bs k)) (go (over t ls (at bs k)))
  where
    go : (v : Bool) → NotHeld (pick v (stand (at bs k) 3 0) (at bs k)) (at bs k)
    go true = record { like = same_stand (at bs k) 3 0; not_one = λ _ f. omega arith }
    go false = not_held_refl (at bs k)

fair_from : (cs bs : List Booking) (j k : ℕ) → ((i : ℕ) → i < length bs → NotHeld (at cs i) (at bs i)) → Before (at bs j) (at bs k) → (at bs j).stands ≡ 0 → (at bs k).stands ≡ 0 → Fair cs j k
fair_from cs bs j k f p y z =
    let a = f j (there bs j (omega arith)) in
    let b = f k (there bs k (omega arith)) in
    record { order = before_same _ _ _ _ a.like b.like p; fair = λ e _. b.not_one z e }

step : (l : Limits) (h : House) (x : Call) (j k : ℕ) → j < k → Before (the_booking h j) (the_booking h k) → (the_booking h j).stands ≡ 0 → (the_booking h k).stands ≡ 0 → Fair (changed h x).bookings j k
unfolding changed
step l h (opens a b c d ls) j k q p y z = record { order = p; fair = λ e _. omega arith }
step l h (files a b c m r) j k q p y z = record { order = p; fair = λ e _. omega arith }
step l h (books c m is) j k q p y z = fair_serve _ _ _ j k _ q (fair_from _ h.bookings j k (λ i v. subst (λ b. NotHeld b (at h.bookings i)) (sym (get_or_append_left h.bookings _ none i v)) (not_held_refl _)) p y z)
step l h (pays i) j k q p y z =
    fair_from _ h.bookings j k (λ n _. set_each NotHeld not_held_refl h.bookings i _ (record { like = record { same_legs = refl; same_class = refl; same_seats = refl }; not_one = λ _ e. omega arith }) n) p y z
step l h (cancels i) j k q p y z = fair_serve _ _ _ j k _ q (fair_from _ h.bookings j k (λ n _. not_held_set h.bookings i 3 0 (omega arith) n) p y z)
step l h (limits_to i ls) j k q p y z = fair_serve _ _ _ j k _ q (record { order = p; fair = λ e _. omega arith })
step l h (ticks m) j k q p y z = fair_serve _ _ _ j k _ q (fair_from _ h.bookings j k (λ n _. not_held_run_out (h.now + m) h.legs h.bookings n) p y z)
step l h (free i c) j k q p y z = record { order = p; fair = λ e _. omega arith }
step l h (price_of c is) j k q p y z = record { order = p; fair = λ e _. omega arith }
step l h (booking i) j k q p y z = record { order = p; fair = λ e _. omega arith }
step l h (leg_is i) j k q p y z = record { order = p; fair = λ e _. omega arith }
step l h (garbled m) j k q p y z = record { order = p; fair = λ e _. omega arith }

pub first_served : FirstServed
unfolding FirstServed
first_served l h x j k _ q y z a b c e =
    let p : Before (the_booking h j) (the_booking h k) = record { legs_same = a; class_same = b; no_more = c } in
    (after_is l h x (λ g. Fair g.bookings j k) (record { order = p; fair = λ v _. omega arith }) (λ _. step l h x j k q p y z)).fair e
