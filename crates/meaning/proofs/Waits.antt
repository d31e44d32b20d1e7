-- Nobody waits for what is free.
use Rattle.std.proofs.Common.{◌≡◌, ℕ, zero, suc, ◌+◌, ◌-◌, ◌*◌, ◌<◌, ◌≤◌, Bool, true, false, ◌&&◌, eqb, List, [], ◌∷◌, ◌++◌, length, get_or, set, sym, refl, ap, ◌∙◌, subst, inl, inr, arith}
use Rattle.std.proofs.lemmas.Bool.{eqb-true, eq-eqb, or_from, or_parts, cases_lt, cases_eq, both_ways}
use Rattle.std.proofs.lemmas.List.{get_or_append_left, get_or_past, get_or-set_same, get_or-set_other}
use Rattle.meaning.specs.Lines.{Leg, leg, cost, no_leg}
use Rattle.meaning.specs.House.{Booking, House, taken}
use Rattle.meaning.specs.Calls.{Call, opens, files, books, pays, cancels, limits_to, ticks, free, price_of, booking, leg_is, garbled, Limits, turned, after, changed, the_booking, with_limits}
use Rattle.meaning.specs.Statements.{NobodyWaits, some_could}
use Rattle.meaning.proofs.Serve.{none, at, fits, Idle, all_served}
use Rattle.meaning.proofs.Reach.{after_is, reached}
use Rattle.meaning.proofs.Room.{counts_held, taken_set, room_less, room_tells, room_from}
use Rattle.meaning.proofs.Told.{pays_ok}

pub not-true : (t u : Bool) → t ≡ false → (u ≡ true → t ≡ true) → u ≡ false
not-true t true e f = absurd (both_ways t e (f refl))
not-true t false e f = refl

pub could_from : (h : House) (bs : List Booking) → Idle h.legs h.bookings bs → some_could h bs ≡ false
unfolding some_could
could_from h [] f = refl
could_from h (b ∷ bs) f = or_from _ _ (go (eqb b.stands 0) refl) (could_from h bs (λ j. f (suc j)))
  where
    go : (t : Bool) → eqb b.stands 0 ≡ t → (t && fits h.legs h.bookings b) ≡ false
    go true e = f 0 (eqb-true _ _ e)
    go false e = refl

-- and back: a list of whom none could be held
pub could_tells : (h : House) (bs : List Booking) → some_could h bs ≡ false → Idle h.legs h.bookings bs
unfolding some_could
could_tells h [] e j z = absurd (omega arith)
could_tells h (b ∷ bs) e zero z = waits (eqb b.stands 0) (fits h.legs h.bookings b) (eq-eqb _ _ z) (or_parts _ _ e).0
  where
    waits : (s t : Bool) → s ≡ true → (s && t) ≡ false → t ≡ false
    waits true t p q = q
    waits false t p q = absurd (both_ways false refl p)
could_tells h (b ∷ bs) e (suc j) z = could_tells h bs (or_parts _ _ e).1 j z

-- one more leg makes no room
abbrev Below : List Booking → Booking → ℕ → Leg → Type 0
Below bs b i x = (j : ℕ) → j ≤ b.class → j < length x.limits → taken bs i j + b.seats ≤ get_or x.limits j 0

below_opens : (ls : List Leg) (g : Leg) (bs : List Booking) (b : Booking) (i : ℕ) → Below bs b i (leg (ls ++ (g ∷ [])) i) → Below bs b i (leg ls i)
below_opens ls g bs b i u = elim (cases_lt i (length ls)) [
  | inl h ↦ subst (Below bs b i) (get_or_append_left ls (g ∷ []) no_leg i h) u
  | inr h ↦ (λ j k q. let z : j < 0 = subst (λ (x : Leg). j < length x.limits) (get_or_past ls i no_leg h) q in absurd (omega arith))
]

fits_opens : (ls : List Leg) (g : Leg) (bs : List Booking) (b : Booking) → fits (ls ++ (g ∷ [])) bs b ≡ true → fits ls bs b ≡ true
fits_opens ls g bs b e = room_from ls bs b.legs b.class b.seats (λ i k. below_opens ls g bs b i (room_tells (ls ++ (g ∷ [])) bs b.legs b.class b.seats e i k))

abbrev paid_at : House → ℕ → Booking
paid_at h k = record { legs = (the_booking h k).legs; class = (the_booking h k).class; seats = (the_booking h k).seats; stands = 2; until = 0; paid = (the_booking h k).seats * (cost h.fares h.legs (the_booking h k).class (the_booking h k).legs - 1) }

pub taken_pays : (h : House) (k i c : ℕ) → k < length h.bookings → (the_booking h k).stands ≡ 1 → taken (set h.bookings k (paid_at h k)) i c ≡ taken h.bookings i c
taken_pays h k i c p e = omega (arith, taken_set h.bookings k (paid_at h k) i c p, counts_held (the_booking h k) i c e)

idle_pays : (h : House) (k : ℕ) → k < length h.bookings → (the_booking h k).stands ≡ 1 → Idle h.legs h.bookings h.bookings →
    Idle h.legs (set h.bookings k (paid_at h k)) (set h.bookings k (paid_at h k))
idle_pays h k p e f j z = elim (cases_eq j k) [
  | inl q ↦ absurd (omega (arith, ap (λ (b : Booking). b.stands) (get_or-set_same h.bookings k (paid_at h k) none p), subst (λ v. (at new v).stands ≡ 0) q z))
  | inr n ↦ other n
]
  where
    new : List Booking
    new = set h.bookings k (paid_at h k)

    other : (j ≡ k → ⊥) → fits h.legs new (at new j) ≡ false
    other n =
        let s = get_or-set_other h.bookings k j (paid_at h k) none n in
        subst (λ b. fits h.legs new b ≡ false) (sym s)
        (not-true _ _ (f j (ap (λ (b : Booking). b.stands) (sym s) ∙ z)) (room_less h.legs new h.bookings _ _ _ _ (omega arith) (λ i c. omega (arith, taken_pays h k i c p e))))

step : (l : Limits) (h : House) (x : Call) → turned l h x ≡ 0 → Idle h.legs h.bookings h.bookings → Idle (changed h x).legs (changed h x).bookings (changed h x).bookings
unfolding changed
step l h (opens a b c d ls) e p = λ j z. not-true _ _ (p j z) (fits_opens h.legs _ h.bookings (at h.bookings j))
step l h (files a b c n q) e p = p
step l h (books c n is) e p = all_served h.legs (h.now + h.hold_for) _
step l h (pays k) e p = let o = pays_ok l h k e in idle_pays h k o.0 o.1 p
step l h (cancels k) e p = all_served h.legs (h.now + h.hold_for) _
step l h (limits_to i ls) e p = all_served (set h.legs i (with_limits (leg h.legs i) ls)) (h.now + h.hold_for) _
step l h (ticks n) e p = all_served h.legs ((h.now + n) + h.hold_for) _
step l h (free i c) e p = p
step l h (price_of c is) e p = p
step l h (booking k) e p = p
step l h (leg_is i) e p = p
step l h (garbled n) e p = p

-- EVERY CALL KEEPS IT, whatever the house
pub idle_after : (l : Limits) (h : House) (x : Call) → some_could h h.bookings ≡ false → some_could (after l h x) (after l h x).bookings ≡ false
idle_after l h x e = after_is l h x (λ g. some_could g g.bookings ≡ false) e (λ t. could_from (changed h x) (changed h x).bookings (step l h x t (could_tells h h.bookings e)))

pub idle : (l : Limits) (h : House) → Rattle.meaning.specs.Statements.Reached l h → Idle h.legs h.bookings h.bookings
idle l h r = reached l (λ g. Idle g.legs g.bookings g.bookings) (step l) (λ j z. absurd (omega arith)) h r

pub nobody_waits : NobodyWaits
unfolding NobodyWaits
nobody_waits l h r = could_from h h.bookings (idle l h r)
