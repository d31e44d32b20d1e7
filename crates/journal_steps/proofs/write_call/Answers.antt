use Rattle.std.proofs.Common.{arith}
use Rattle.meaning.specs.Promise.{whole}
use Rattle.journal_steps.specs.Steps.{chip_limits}
use Rattle.journal_steps.proofs.Plans.{same_page}
use Rattle.journal_steps.proofs.Ranges.{in_ring, ring_most}
use Rattle.journal_steps.proofs.write_call.Goals as goal

pub overflow_add-result : goal.overflow_add-result
overflow_add-result c = omega (arith, ring_most (chip_limits c.args.layout.now.limits) c.args.layout.now.in_range)

pub returns : goal.returns
returns c j n = (
  λ can h call a e. same_page _ _ _ _ (omega (arith, c.slot_blocks.ensures.blocks can)),
  tt,
  λ w. omega (arith, c.slot_blocks.ensures.blocks whole, in_ring (chip_limits c.args.layout.now.limits) c.args.place c.requires),
)
