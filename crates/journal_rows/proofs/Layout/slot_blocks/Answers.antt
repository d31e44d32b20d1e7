use Rattle.std.proofs.Common.{◌+◌, ◌/◌, ap, arith}
use Rattle.journal_rows.specs.Layout.{slot_blocks}
use Rattle.journal_rows.proofs.Layout.slot_blocks.Goals as goal

pub returns : goal.returns
unfolding slot_blocks
returns c = record { blocks = λ can. ap (λ n. 1 + (n + 15) / 16) c.checkpoint_pages-most.ensures.pages; few = omega arith }
