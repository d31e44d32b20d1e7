-- Bookings of one leg, and of legs 0 and 1, are in range.
use Rattle.std.proofs.Common.{ℕ, zero, suc, [], ◌∷◌, length, refl, arith}
use Rattle.meaning.specs.House.{House, goes}
use Rattle.meaning.specs.Calls.{no_twice}
use Rattle.records.specs.Words.{booking_of}
use Rattle.store.specs.Range.{FineBooking}
use Rattle.seating_tests.specs.Bookable.{Bookable}

pub one_leg : (h : House) (n c s i : ℕ) → Bookable h n c s i → FineBooking (length h.legs) (booking_of c s (i ∷ []))
unfolding no_twice goes
one_leg h n c s i b = record {
  class = b.class_there;
  some = b.some;
  seats = b.few;
  any = omega arith;
  few = omega arith;
  there = elim [ zero ↦ (λ _. b.leg) | suc x ↦ (λ q. absurd (omega arith)) ];
  apart = refl;
  stands = omega arith;
}

pub two_legs : (h : House) (n c s : ℕ) → Bookable h n c s 1 → FineBooking (length h.legs) (booking_of c s (0 ∷ 1 ∷ []))
unfolding no_twice goes
two_legs h n c s b = record {
  class = b.class_there;
  some = b.some;
  seats = b.few;
  any = omega arith;
  few = omega arith;
  there = elim [ zero ↦ (λ _. omega (arith, b.leg)) | suc zero ↦ (λ _. b.leg) | suc (suc x) ↦ (λ q. absurd (omega arith)) ];
  apart = refl;
  stands = omega arith;
}
