use Rattle.std.proofs.Common.{◌≡◌, ℕ, ◌<◌, Bool, sym, ◌∙◌, subst, ap₂, arith}
use Rattle.std.proofs.lemmas.Bool.{eq-eqb, ne_eqb}
use Rattle.meaning.specs.Promise.{room_for, whole}
use Rattle.limits.specs.Opening.{limits_mean}
use Rattle.journal.specs.Slots.{next_block}
use Rattle.journal_rows.specs.Layout.{slot_blocks, ring_blocks}
use Rattle.journal_steps.specs.Steps.{chip_limits, journal_of}
use Rattle.journal_steps.proofs.Plans.{log_first, log_next, same_block}
use Rattle.journal_steps.proofs.Ranges.{next_on, ring_most}
use Rattle.journal_steps.proofs.log_ahead.Goals as goal

pub block_after-requires : goal.block_after-requires
block_after-requires c = (c.slot_blocks.ensures.few, c.ring_blocks.ensures.few, omega (arith, ring_most (chip_limits c.args.layout.now.limits) c.args.layout.now.in_range, c.requires))

pub returns-then-place-ne0 : goal.returns-then-place-ne0
returns-then-place-ne0 c j n =
    let w = c.write_call.ensures j n in
    (λ can h call a e. log_next (limits_mean can c.args.layout.now.limits) (journal_of (limits_mean can c.args.layout.now.limits) j h) c.args.place call a (ne_eqb _ _ (λ z. omega arith)) ∙ w.0 can h call a e, w.1, w.2)

pub returns : goal.returns
returns c j n =
    let block : (can : ℕ → Bool) → c.block_after.result ≡ next_block (slot_blocks (limits_mean can c.args.layout.now.limits)) (ring_blocks (limits_mean can c.args.layout.now.limits)) c.args.place = λ can. c.block_after.ensures ∙ ap₂ (λ (s r : ℕ). next_block s r c.args.place) (c.slot_blocks.ensures.blocks can) (c.ring_blocks.ensures.blocks can) in (
      λ can h call a e.
          log_first (limits_mean can c.args.layout.now.limits) (journal_of (limits_mean can c.args.layout.now.limits) j h) c.args.place call a (eq-eqb _ _ (omega arith)) ∙ same_block _ _ _ (block can),
      c.requires,
      λ w. subst (λ (b : ℕ). b < room_for (chip_limits c.args.layout.now.limits)) (sym (block whole)) (next_on (chip_limits c.args.layout.now.limits) c.args.place c.requires),
    )
