use Rattle.std.proofs.Common.{get_or, is_ok}
use Rattle.meaning.specs.Lines.{pick}
use Rattle.flash.specs.Pages.{left_by}
use Rattle.flash.specs.declared.Left.TheVariants.{Done}
use Rattle.flash.proofs.Acts.{ErasedTo}
use Rattle.flash.proofs.erase_block.Given as goal

-- the pages that were passed are what the act leaves of them
abbrev pub invariant-loop-i : goal.invariant-loop-i
invariant-loop-i l = ErasedTo l.block l.i (λ i. pick (is_ok l.held) Done (left_by (get_or l.fn.power.tear i 0))) l.initial.pages l.pages
