-- A page of 512 bytes has 128 numbers.
use Rattle.std.proofs.Common.{arith}
use Rattle.wire.proofs.Fields.{numbers_length}
use Rattle.journal_rows.proofs.word.Goals as goal

pub unreachable-requires : goal.unreachable-requires
unreachable-requires c = omega (arith, numbers_length c.args.page.now, c.in_default.ensures)
