-- The numbers come right behind the byte.
use Rattle.std.proofs.Common.{[], ◌∷◌, map, arith}
use Rattle.wire.specs.Bytes.{row_of}
use Rattle.wire.proofs.Written.{over_byte, then_more}
use Rattle.wire.proofs.writing.put_row.Goals as goal

pub returns-clause-after : goal.returns-clause-after
returns-clause-after g c =
    then_more c.args.at _ (c.args.first ∷ []) (row_of g.N.FixedWidth.WIDTH (map g.N.FixedWidth.value c.args.numbers.now)) c.args.out.now _ _ (omega arith) (over_byte c.args.at c.args.first c.args.out.now (omega arith)) c.put_numbers.ensures.after (omega arith)
