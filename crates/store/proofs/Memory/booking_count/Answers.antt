-- as many as there are in the list
use Rattle.std.proofs.Common.{sym}
use Rattle.store.proofs.Lists.{length_bookings}
use Rattle.store.proofs.Memory.booking_count.Goals as goal

pub returns : goal.returns
returns c = sym (length_bookings c.args.self.now.bookings.now c.args.self.now.sums.now c.args.self.now.booked)
