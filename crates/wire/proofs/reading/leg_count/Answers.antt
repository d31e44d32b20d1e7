-- Four bytes make a number.
use Rattle.std.proofs.Common.{arith}
use Rattle.wire.proofs.Fields.{numbers_length}
use Rattle.wire.proofs.reading.leg_count.Goals as goal

pub returns : goal.returns
returns c = omega (arith, numbers_length c.args.part.now)
