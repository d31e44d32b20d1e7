use Rattle.std.proofs.Common.{arith}
use Rattle.meaning.specs.Promise.{whole}
use Rattle.limits.specs.Opening.{limits_mean}
use Rattle.journal_rows.specs.Layout.{ring_blocks}
use Rattle.journal_rows.proofs.Room.{thrice}
use Rattle.journal_rows.proofs.Layout.ring_blocks.Goals as goal

pub overflow_sub-result : goal.overflow_sub-result
overflow_sub-result c = omega (arith, thrice (limits_mean whole c.args.self.now.limits), c.blocks-2.ensures whole, c.slot_blocks.ensures.blocks whole)

pub returns : goal.returns
unfolding ring_blocks
returns c = record { blocks = λ can. omega (arith, c.blocks-2.ensures can, c.slot_blocks.ensures.blocks can); few = omega (arith, c.blocks-2.ensures whole) }
