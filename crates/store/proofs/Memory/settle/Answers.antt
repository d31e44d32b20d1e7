-- the booking stands otherwise, and what is taken on its legs follows
use Rattle.std.proofs.Common.{ℕ, sym, refl, ap, ◌∙◌, arith, rules}
use Rattle.meaning.specs.Calls.{the_booking}
use Rattle.counts.specs.Counts.{counted}
use Rattle.records.proofs.Standings.{number_few}
use Rattle.store.specs.Whole.{words, house, set_booking, settled}
use Rattle.store.proofs.Kept as kept
use Rattle.store.proofs.Memory.settle.Goals as goal

pub put_booking-requires : goal.put_booking-requires
put_booking-requires c =
    let w = words c.args.self.now in
    let s = c.args.self.now.sound in
    let b = c.booking-b.result in
    let f = c.booking-b.ensures in
    record {
      words = kept.booking_there w s c.args.k c.requires.there;
      sum = kept.sum_there w s c.args.k c.requires.there;
      ready = kept.ready w s (kept.standing b c.number.result c.args.until c.args.paid)
          (kept.standing_fine w s b c.number.result c.args.until c.args.paid f.fine (omega (arith, c.number.ensures, number_few c.args.stands)));
      few = λ q. kept.can_take w s b f.fine;
      taken = λ q. kept.can_give w s c.args.k c.requires.there b f.fine f.means f.whole (sym c.is_counted-was.ensures ∙ q);
    }

pub invariant_of-self : goal.invariant_of-self
invariant_of-self c =
    let n = c.put_booking.new in
    let e = c.put_booking.ensures in
    let f = c.booking-b.ensures in
    record {
      sound = kept.stood_sound (words c.args.self.now) c.args.self.now.sound c.args.k c.requires.there c.booking-b.result f.fine f.means c.number.result c.args.until c.args.paid n.legs n.bookings n.sums
          c.is_counted-was.result (counted c.number.result) c.is_counted-was.ensures refl e.counts e.this e.others (search rules) (search rules) (search rules) (omega (arith, c.number.ensures, number_few c.args.stands));
    }

pub returns-clause-house : goal.returns-clause-house
returns-clause-house c =
    let n = c.put_booking.new in
    let e = c.put_booking.ensures in
    let f = c.booking-b.ensures in
    let h = house c.args.self.now in
    kept.stood_house (words c.args.self.now) c.args.self.now.sound c.args.k c.requires.there c.booking-b.result f.fine f.means c.number.result c.args.until c.args.paid n.legs n.bookings n.sums
    c.is_counted-was.result (counted c.number.result) c.is_counted-was.ensures refl e.counts e.this e.others (search rules) (search rules) (search rules) (omega (arith, c.number.ensures, number_few c.args.stands))
    ∙ ap (λ (s : ℕ). set_booking h c.args.k (settled (the_booking h c.args.k) s c.args.until c.args.paid)) c.number.ensures
