-- a booking of legs 0 and 1 is in range, and comes where nobody waits for what is free
use Rattle.std.proofs.Common.{length, sym, ap, subst}
use Rattle.records.specs.declared.Booking.{Booking}
use Rattle.records.specs.Means.{booking_means}
use Rattle.seating.specs.Serving.{Newcomer}
use Rattle.seating.proofs.Newest.{newcomer}
use Rattle.store.specs.Range.{FineBooking}
use Rattle.store.specs.Whole.{house}
use Rattle.seating_tests.proofs.Bookings.{two_legs}
use Rattle.seating_tests.proofs.tests.book_both.Goals as goal

pub push_booking-requires : goal.push_booking-requires
push_booking-requires g c = record {
  space = c.in_ok-may_book.ensures.space;
  fine =
      subst (λ (b : Booking). FineBooking (length (house c.args.m.now).legs) b) (sym c.new.ensures)
      (two_legs (house c.args.m.now) c.args.m.now.limits.bookings c.args.class c.args.seats c.in_ok-may_book.ensures);
}

pub serve_newest-requires : goal.serve_newest-requires
serve_newest-requires g c = record {
  newest =
      subst Newcomer (sym c.push_booking.ensures.house)
      (newcomer (house c.args.m.now) (booking_means c.new.result) c.requires.idle (ap (λ (b : Booking). b.stands) c.new.ensures));
}
