-- What was paid stays paid until it is cancelled.
use Rattle.std.proofs.Common.{◌≡◌, ℕ, ◌+◌, Bool, false, ◌≢◌, List, sym, refl, ap, ◌∙◌, arith}
use Rattle.std.proofs.lemmas.List.{get_or-set_other}
use Rattle.meaning.specs.Lines.{pick, Leg}
use Rattle.meaning.specs.House.{Booking, House, stand, serve, over, run_out}
use Rattle.meaning.specs.Calls.{Call, opens, files, books, pays, cancels, limits_to, ticks, free, price_of, booking, leg_is, garbled, Limits, turned, changed, the_booking}
use Rattle.meaning.specs.Statements.{PaidStays}
use Rattle.meaning.proofs.Serve.{none, at}
use Rattle.meaning.proofs.Each.{set_each, push_each, at_run_out, serve_each}
use Rattle.meaning.proofs.Reach.{after_is}
use Rattle.meaning.proofs.Told.{pays_ok}

abbrev Stays : Booking → Booking → Type 0
Stays a b = b.stands ≡ 2 → a ≡ b

stays_refl : (b : Booking) → Stays b b
stays_refl b e = refl

stays_trans : (a b c : Booking) → Stays a b → Stays b c → Stays a c
stays_trans a b c p q e = p (ap (λ (x : Booking). x.stands) (q e) ∙ e) ∙ q e

stays_serve : (ls : List Leg) (u n : ℕ) (bs : List Booking) (k : ℕ) → Stays (at (serve n ls bs u) k) (at bs k)
stays_serve ls u = serve_each Stays stays_refl stays_trans ls u (λ b z e. absurd (omega arith))

stays_run_out : (t : ℕ) (ls : List Leg) (bs : List Booking) (k : ℕ) → Stays (at (run_out t ls bs) k) (at bs k)
stays_run_out t ls bs k e =
    let f : over t ls (at bs k) ≡ false = rw e in
    at_run_out t ls bs k ∙ ap (λ (v : Bool). pick v (stand (at bs k) 3 0) (at bs k)) f

step : (l : Limits) (h : House) (x : Call) (k : ℕ) → x ≢ cancels k → turned l h x ≡ 0 → Stays (the_booking (changed h x) k) (the_booking h k)
unfolding changed
step l h (opens a b c d ls) k n t = stays_refl _
step l h (files a b c m p) k n t = stays_refl _
step l h (books c m is) k n t = stays_trans _ _ _ (stays_serve _ _ _ _ k) (push_each Stays stays_refl h.bookings _ (λ e. absurd (omega arith)) k)
step l h (pays j) k n t = set_each Stays stays_refl h.bookings j _ (λ e. absurd (omega (arith, (pays_ok l h j t).1))) k
step l h (cancels j) k n t = stays_trans _ _ _ (stays_serve _ _ _ _ k) (λ e. get_or-set_other h.bookings j k _ none (λ q. n (ap cancels (sym q))))
step l h (limits_to i ls) k n t = stays_serve _ _ _ _ k
step l h (ticks m) k n t = stays_trans _ _ _ (stays_serve _ _ _ _ k) (stays_run_out (h.now + m) h.legs h.bookings k)
step l h (free i c) k n t = stays_refl _
step l h (price_of c is) k n t = stays_refl _
step l h (booking j) k n t = stays_refl _
step l h (leg_is i) k n t = stays_refl _
step l h (garbled m) k n t = stays_refl _

pub paid_stays : PaidStays
unfolding PaidStays
paid_stays l h x k _ e n = after_is l h x (λ g. the_booking g k ≡ the_booking h k) refl (λ t. step l h x k n t e)
