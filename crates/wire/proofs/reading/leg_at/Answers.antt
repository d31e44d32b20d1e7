-- The four bytes of number i stand at four times i.
use Rattle.std.proofs.Common.{arith}
use Rattle.wire.proofs.Fields.{numbers_length, numbers_at}
use Rattle.wire.proofs.reading.leg_at.Goals as goal

pub overflow_mul-i : goal.overflow_mul-i
overflow_mul-i c = omega (arith, numbers_length c.args.part.now, c.leg_count.ensures)

pub number_at-requires : goal.number_at-requires
number_at-requires c = omega (arith, numbers_length c.args.part.now, c.leg_count.ensures)

pub returns : goal.returns
returns c =
    let n = numbers_at c.args.part.now c.args.i (omega (arith, numbers_length c.args.part.now, c.leg_count.ensures)) in
    (omega (arith, c.leg_count.ensures), omega (arith, n, c.number_at.ensures))
