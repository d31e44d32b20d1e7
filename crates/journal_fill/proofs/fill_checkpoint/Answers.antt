-- The place of a booking is one of a house that memory holds.
use Rattle.std.proofs.Common.{arith}
use Rattle.store.specs.Whole.{Words, words}
use Rattle.store.proofs.Lists.{length_bookings}
use Rattle.journal_fill.proofs.fill_checkpoint.Goals as goal

pub overflow_mul-k-else-k-fare_pages : goal.overflow_mul-k-else-k-fare_pages
overflow_mul-k-else-k-fare_pages c =
    let w : Words = words c.args.m.now in
    omega (arith, c.requires.there, length_bookings w.bookings w.sums w.booked, c.requires.sound.booked, c.requires.sound.limits.5)
