-- the booking's words and sum are there, and mean the booking of this number
use Rattle.std.proofs.Common.{ℕ, ◌<◌, length, sym, ap, ◌∙◌, subst, arith}
use Rattle.meaning.proofs.Serve.{none}
use Rattle.records.specs.declared.Booking.{Booking}
use Rattle.records.specs.Means.{booking_means}
use Rattle.store.specs.Range.{FineBooking}
use Rattle.store.specs.Whole.{Words, words}
use Rattle.store.proofs.Lists.{length_legs, length_bookings, at_bookings, journey_full}
use Rattle.store.proofs.Memory.booking.Goals as goal

pub load_booking-requires : goal.load_booking-requires
load_booking-requires c =
    let w : Words = words c.args.self.now in
    let h : c.args.k < w.booked = omega (arith, c.requires.there, length_bookings w.bookings w.sums w.booked) in
    record { words = omega (arith, c.args.self.now.sound.booked, c.args.self.now.sound.bookings_fit); sum = omega (arith, c.args.self.now.sound.booked, c.args.self.now.sound.sums_fit) }

pub returns : goal.returns
returns c =
    let w : Words = words c.args.self.now in
    let h : c.args.k < w.booked = omega (arith, c.requires.there, length_bookings w.bookings w.sums w.booked) in
    record {
      means = ap booking_means c.load_booking.ensures ∙ sym (at_bookings w.bookings w.sums w.booked c.args.k none h);
      fine = subst (λ (n : ℕ). FineBooking n c.load_booking.result) (sym (length_legs w.legs w.opened))
          (subst (λ (b : Booking). FineBooking w.opened b) (sym c.load_booking.ensures) (c.args.self.now.sound.bookings c.args.k h));
      whole = ap (λ (b : Booking). length b.legs) c.load_booking.ensures ∙ journey_full w.bookings w.sums c.args.k (omega (arith, c.args.self.now.sound.booked, c.args.self.now.sound.bookings_fit));
    }
