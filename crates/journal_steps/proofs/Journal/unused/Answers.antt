use Rattle.std.proofs.Common.{refl, arith}
use Rattle.journal_rows.specs.Layout.{ring_blocks}
use Rattle.journal_rows.proofs.Room.{thrice}
use Rattle.journal_steps.specs.Steps.{chip_limits}
use Rattle.journal_steps.proofs.Journal.unused.Goals as goal

pub returns : goal.returns
unfolding ring_blocks
returns c = record { fits = λ l. record { begins = omega (arith, thrice (chip_limits l)); used = omega arith; pages = omega arith }; is = λ l. refl }
