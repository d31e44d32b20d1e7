-- the array that is written is the booking's words
use Rattle.std.proofs.Common.{rules}
use Rattle.records.proofs.Parts.{booking_wrote}
use Rattle.records.proofs.write_booking.Goals as goal

pub returns : goal.returns
returns c = booking_wrote c.args.b.now c.copy_from_slice.new.self _ (search rules) c.copy_from_slice.ensures.after
