-- A seat is sold once.
use Rattle.std.proofs.Common.{◌≡◌, ℕ, ◌+◌, ◌<◌, ◌≤◌, Bool, true, false, ◌&&◌, leb, ◌⊎◌, List, length, get_or, set, refl, inl, inr, arith}
use Rattle.std.proofs.lemmas.Bool.{leb-true, and_parts}
use Rattle.meaning.specs.Lines.{pick, Leg, leg}
use Rattle.meaning.specs.House.{Booking, House, goes, taken, stand, serve}
use Rattle.meaning.specs.Calls.{Call, opens, files, books, pays, cancels, limits_to, ticks, free, price_of, booking, leg_is, garbled, Limits, turned, changed, the_booking, with_limits}
use Rattle.meaning.specs.Statements.{SoldOnce}
use Rattle.meaning.proofs.Serve.{at, Next, held, serve_keeps}
use Rattle.meaning.proofs.Reach.{after_is}
use Rattle.meaning.proofs.Room.{counts_waits, taken_set, taken_push, taken_run_out, room_tells}
use Rattle.meaning.proofs.Told.{pays_ok, cancels_ok}
use Rattle.meaning.proofs.Waits.{taken_pays}

-- at most the limit, or no more than before
abbrev Right : List Leg → ℕ → ℕ → ℕ → ℕ → Type 0
Right ls i c before now = (now ≤ get_or (leg ls i).limits c 0) ⊎ (now ≤ before)

taken_held : (ls : List Leg) (u : ℕ) (bs : List Booking) (m i c : ℕ) → m < length bs → (at bs m).stands ≡ 0 →
    taken (held ls u bs m) i c ≡ taken bs i c + pick (goes (at bs m).legs i && leb c (at bs m).class) (at bs m).seats 0
taken_held ls u bs m i c h z = omega (arith, taken_set bs m (stand (at bs m) 1 u) i c h, counts_waits (at bs m) i c z)

right_next : (ls : List Leg) (u i c n : ℕ) → c < length (leg ls i).limits → (bs : List Booking) (m : ℕ) → Next ls bs bs m → Right ls i c n (taken bs i c) → Right ls i c n (taken (held ls u bs m) i c)
right_next ls u i c n k bs m (h, z, r, p) w = go (goes (at bs m).legs i && leb c (at bs m).class) refl (taken_held ls u bs m i c h z)
  where
    go : (t : Bool) → (goes (at bs m).legs i && leb c (at bs m).class) ≡ t → taken (held ls u bs m) i c ≡ taken bs i c + pick t (at bs m).seats 0 → Right ls i c n (taken (held ls u bs m) i c)
    go true e q =
        let a = and_parts _ _ e in
        let f = room_tells ls bs (at bs m).legs (at bs m).class (at bs m).seats r i a.0 c (leb-true _ _ a.1) k in
        inl (omega arith)
    go false e q = elim w [ inl v ↦ inl (omega arith) | inr v ↦ inr (omega arith) ]

right_serve : (ls : List Leg) (u i c n : ℕ) → c < length (leg ls i).limits → (f : ℕ) (bs : List Booking) → Right ls i c n (taken bs i c) → Right ls i c n (taken (serve f ls bs u) i c)
right_serve ls u i c n k = serve_keeps ls u (λ bs. Right ls i c n (taken bs i c)) (right_next ls u i c n k)

step : (l : Limits) (h : House) (x : Call) (i c : ℕ) → turned l h x ≡ 0 → c < length (leg (changed h x).legs i).limits → Right (changed h x).legs i c (taken h.bookings i c) (taken (changed h x).bookings i c)
unfolding changed
step l h (opens a b d e ls) i c t k = inr (omega arith)
step l h (files a b d n q) i c t k = inr (omega arith)
step l h (books d n is) i c t k = right_serve h.legs (h.now + h.hold_for) i c _ k _ _ (inr (omega (arith, taken_push h.bookings (record { legs = is; class = d; seats = n; stands = 0; until = 0; paid = 0 }) i c)))
step l h (pays j) i c t k = let o = pays_ok l h j t in inr (omega (arith, taken_pays h j i c o.0 o.1))
step l h (cancels j) i c t k = right_serve h.legs (h.now + h.hold_for) i c _ k _ _ (inr (omega (arith, taken_set h.bookings j (stand (the_booking h j) 3 0) i c (cancels_ok l h j t).0)))
step l h (limits_to j ls) i c t k = right_serve (set h.legs j (with_limits (leg h.legs j) ls)) (h.now + h.hold_for) i c _ k _ _ (inr (omega arith))
step l h (ticks n) i c t k = right_serve h.legs ((h.now + n) + h.hold_for) i c _ k _ _ (inr (taken_run_out (h.now + n) h.legs h.bookings i c))
step l h (free j d) i c t k = inr (omega arith)
step l h (price_of d is) i c t k = inr (omega arith)
step l h (booking j) i c t k = inr (omega arith)
step l h (leg_is j) i c t k = inr (omega arith)
step l h (garbled n) i c t k = inr (omega arith)

pub sold_once : SoldOnce
unfolding SoldOnce
sold_once l h x i c _ _ k =
    after_is l h x (λ g. c < length (leg g.legs i).limits → Right g.legs i c (taken h.bookings i c) (taken g.bookings i c)) (λ _. inr (omega arith)) (step l h x i c) k
