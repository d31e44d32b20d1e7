-- The act was done where power held, and torn where it failed.
use Rattle.std.proofs.Common.{◌≡◌, ℕ, is_ok, get_or, ap, subst, arith}
use Rattle.meaning.specs.Lines.{pick}
use Rattle.flash.specs.Pages.{ChipIs, chip_in, erase_leaves, left_by}
use Rattle.flash.specs.declared.Left.{Left}
use Rattle.flash.specs.declared.Left.TheVariants.{Done}
use Rattle.flash.proofs.Acts.{ErasedTo, acted_erase, all_erased}
use Rattle.flash.proofs.erase_block.Goals as goal

-- what is left of each page, by its number in the block
abbrev leaves : goal.After-loop-i → ℕ → Left
leaves c i = pick (is_ok c.spend-held.result) Done (left_by (get_or c.args.power.now.tear i 0))

erased : (c : goal.After-loop-i) → ChipIs (erase_leaves (chip_in c.args.pages.now) c.args.block (leaves c)) c.args.pages.now c.loop-i.pages
erased c =
    let end : c.loop-i.i ≡ 16 = omega arith in
    all_erased c.args.block (leaves c) c.args.pages.now c.loop-i.pages (subst (λ i. ErasedTo c.args.block i (leaves c) c.args.pages.now c.loop-i.pages) end c.loop-i.invariant)

pub returns-clause-acted : goal.returns-clause-acted
returns-clause-acted c = acted_erase c.args.block (leaves c) _ _ _ (λ e i. ap (λ held. pick held Done (left_by (get_or c.args.power.now.tear i 0))) e) (erased c)

pub returns-clause-left : goal.returns-clause-left
returns-clause-left c = erased c
