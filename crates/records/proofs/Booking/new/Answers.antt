-- the legs stand at the front of the array
use Rattle.std.proofs.Common.{length, replicate, refl}
use Rattle.records.proofs.Parts.{front}
use Rattle.records.proofs.Booking.new.Goals as goal

pub returns : goal.returns
returns c = λ d. record {
  class = c.args.class;
  seats = c.args.seats;
  stands = c.number.ensures d;
  until = 0;
  count = length c.args.legs.now;
  legs = front 8 (replicate 8 0) c.args.legs.now c.copy_from_slice.new.self refl c.copy_from_slice.ensures.after d;
  paid = 0;
}
