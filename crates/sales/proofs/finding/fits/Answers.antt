-- By what is checked, one thing after the other.
use Rattle.std.proofs.Common.{sym, ap, ◌∙◌}
use Rattle.std.proofs.lemmas.Bool.{eq-eqb, ne_eqb}
use Rattle.meaning.specs.Promise.{room_for, whole}
use Rattle.limits.specs.declared.Limits.{Limits}
use Rattle.journal_rows.specs.Layout.{slot_blocks}
use Rattle.journal_steps.specs.Steps.{chip_limits}
use Rattle.sales.proofs.Fits.{not_so_many, so_many}
use Rattle.sales.proofs.finding.fits.Goals as goal

pub returns-then-blocks : goal.returns-then-blocks
returns-then-blocks c = not_so_many c.args.limits.now c.args.block c.args.blocks c.blocks-2.result (sym c.if-not-are_served.ensures) (c.blocks-2.ensures whole ∙ ap (λ (l : Limits). room_for (chip_limits l)) c.new-layout.ensures) (ne_eqb _ _ c.if-blocks.true)

pub returns : goal.returns
returns c = c.begins_slot.ensures ∙ so_many c.args.limits.now c.args.block c.args.blocks c.blocks-2.result c.slot_blocks.result (sym c.if-not-are_served.ensures) (c.blocks-2.ensures whole ∙ ap (λ (l : Limits). room_for (chip_limits l)) c.new-layout.ensures) (eq-eqb _ _ c.if-blocks.false) (c.slot_blocks.ensures.blocks whole ∙ ap (λ (l : Limits). slot_blocks (chip_limits l)) c.new-layout.ensures)
