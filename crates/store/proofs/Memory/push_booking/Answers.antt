-- the booking is at the end, and counted as it stands
use Rattle.std.proofs.Common.{refl, rules}
use Rattle.counts.specs.Counts.{counted}
use Rattle.store.specs.Whole.{Words, words}
use Rattle.store.proofs.Kept as kept
use Rattle.store.proofs.Memory.push_booking.Goals as goal

pub add_booking-requires : goal.add_booking-requires
add_booking-requires c =
    let w : Words = words c.args.self.now in
    let s = c.args.self.now.sound in
    record { words = kept.booking_space w s c.requires.space; sum = kept.sum_space w s c.requires.space; ready = kept.ready w s c.args.b.now c.requires.fine; few = kept.can_take w s c.args.b.now c.requires.fine }

pub invariant_of-self : goal.invariant_of-self
invariant_of-self c =
    let n = c.add_booking.new in
    let e = c.add_booking.ensures in
    record { sound = kept.more_sound (words c.args.self.now) c.args.self.now.sound c.args.b.now n.legs n.bookings n.sums c.requires.fine (counted c.args.b.now.stands) refl e.counts e.this e.others (search rules) (search rules) (search rules) c.requires.space n.booked e.one }

pub returns-clause-house : goal.returns-clause-house
returns-clause-house c =
    let n = c.add_booking.new in
    let e = c.add_booking.ensures in
    kept.more_house (words c.args.self.now) c.args.self.now.sound c.args.b.now n.legs n.bookings n.sums c.requires.fine (counted c.args.b.now.stands) refl e.counts e.this e.others (search rules) (search rules) (search rules) c.requires.space n.booked e.one
