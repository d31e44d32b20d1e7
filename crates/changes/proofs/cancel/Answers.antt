-- No such booking, gone already, or gone now and whoever waits served.
use Rattle.std.proofs.Common.{◌≡◌, refl, ap, arith}
use Rattle.std.proofs.lemmas.Bool.Decides.{nat_tests}
use Rattle.meaning.specs.House.{Booking}
use Rattle.meaning.specs.Calls.{good_fields, turned_by, place, the_booking}
use Rattle.store.specs.Whole.{house}
use Rattle.store.proofs.Lents.{lent_both}
use Rattle.checks.proofs.Verdicts.{refuses}
use Rattle.changes.proofs.Cancelled.{cancelled}
use Rattle.changes.proofs.cancel.Goals as goal

pub returns-then-k-booking_count-clause-meant : goal.returns-then-k-booking_count-clause-meant
unfolding good_fields turned_by place
returns-then-k-booking_count-clause-meant c = refuses _ _ _ _ _ _ c.at.ensures refl refl refl (λ can. grind (arith, nat_tests, c.booking_count.ensures))

pub returns-then-booking-ge-GONE-clause-meant : goal.returns-then-booking-ge-GONE-clause-meant
unfolding good_fields turned_by place
returns-then-booking-ge-GONE-clause-meant c =
    let stands : c.booking.result.stands ≡ (the_booking (house c.args.m.now) c.args.booking).stands = ap (λ (b : Booking). b.stands) c.booking.ensures.means in
    refuses _ _ _ _ _ _ c.at-then-booking-ge-GONE.ensures refl refl refl (λ can. grind (arith, nat_tests, c.booking_count.ensures, stands))

pub returns : goal.returns
returns c =
    let stands : c.booking.result.stands ≡ (the_booking (house c.args.m.now) c.args.booking).stands = ap (λ (b : Booking). b.stands) c.booking.ensures.means in
    record {
      meant = cancelled c.args.m.now.limits (house c.args.m.now) c.args.booking (omega (arith, c.booking_count.ensures)) _ (house c.set_stand.new.self) (house c.serve_now.new.m)
          (omega (arith, c.if-booking-ge-GONE.false)) c.from.ensures c.set_stand.ensures.house c.serve_now.ensures.house;
      lent = lent_both c.args.m.now c.set_stand.new.self c.serve_now.new.m c.set_stand.ensures.lent c.serve_now.ensures.lent;
    }
