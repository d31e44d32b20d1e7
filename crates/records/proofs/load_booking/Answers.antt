-- the part lent to be read is the booking's 13 words
use Rattle.std.proofs.Common.{◌≡◌, ◌+◌, ◌-◌, ◌*◌, arith}
use Rattle.records.proofs.load_booking.Goals as goal

pub returns : goal.returns
returns c = let e : (c.args.k * 22 + 13) - c.args.k * 22 ≡ 13 = omega arith in grind arith
