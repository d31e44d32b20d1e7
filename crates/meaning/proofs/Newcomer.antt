-- A newcomer isn't held while one waits for the same legs in the same class with no more seats: nobody waits for what is free, so there is no room for the newcomer either.
use Rattle.std.proofs.Common.{ℕ, ◌+◌, List, length, refl, ap, ◌∙◌, arith}
use Rattle.meaning.specs.House.{Booking, House}
use Rattle.meaning.specs.Calls.{books, changed, the_booking}
use Rattle.meaning.specs.Statements.{NewcomerWaits}
use Rattle.meaning.proofs.First.{Before, before_fits}
use Rattle.meaning.proofs.Free.{waits_still}
use Rattle.meaning.proofs.Reach.{after_taken}
use Rattle.meaning.proofs.Room.{taken_push}
use Rattle.meaning.proofs.Waits.{idle, not-true}

abbrev comer : ℕ → ℕ → List ℕ → Booking
comer c n is = record { legs = is; class = c; seats = n; stands = 0; until = 0; paid = 0 }

pub newcomer_waits : NewcomerWaits
unfolding NewcomerWaits changed
newcomer_waits l h c n j is r t z a b s =
    let p : Before (the_booking h j) (comer c n is) = record { legs_same = a; class_same = b; no_more = s } in
    ap (λ (g : House). (the_booking g (length h.bookings)).stands) (after_taken l h (books c n is) t)
    ∙ waits_still h.legs h.bookings (comer c n is) (h.now + h.hold_for) refl (λ i k. omega (arith, taken_push h.bookings (comer c n is) i k)) (idle l h r) _
    (not-true _ _ (idle l h r j z) (before_fits h.legs h.bookings (the_booking h j) (comer c n is) p))
