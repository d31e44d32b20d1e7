-- a booking of one leg that is there is in range
use Rattle.std.proofs.Common.{length, sym, subst}
use Rattle.records.specs.declared.Booking.{Booking}
use Rattle.store.specs.Range.{FineBooking}
use Rattle.store.specs.Whole.{house}
use Rattle.seating_tests.proofs.Bookings.{one_leg}
use Rattle.seating_tests.proofs.tests.wait_for.Goals as goal

pub push_booking-requires : goal.push_booking-requires
push_booking-requires g c = record {
  space = c.in_ok-may_book.ensures.space;
  fine =
      subst (λ (b : Booking). FineBooking (length (house c.args.m.now).legs) b) (sym c.new.ensures)
      (one_leg (house c.args.m.now) c.args.m.now.limits.bookings c.args.class c.args.seats c.args.i c.in_ok-may_book.ensures);
}
