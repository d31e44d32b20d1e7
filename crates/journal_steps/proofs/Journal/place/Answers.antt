use Rattle.std.proofs.Common.{◌≡◌, ℕ, ◌+◌, ◌*◌, ap, ◌∙◌, arith}
use Rattle.meaning.specs.Promise.{whole}
use Rattle.journal.specs.Slots.{around}
use Rattle.journal_rows.specs.Layout.{ring_blocks}
use Rattle.journal_steps.specs.Steps.{chip_limits}
use Rattle.journal_steps.proofs.Ranges.{round_in}
use Rattle.journal_steps.proofs.Journal.place.Goals as goal

pub returns : goal.returns
returns c =
    let R = ring_blocks (chip_limits c.args.layout.now.limits) in
    let e : c.goes_round.result ≡ around (16 * R) (c.args.self.now.begins + c.args.self.now.used) = c.goes_round.ensures.0 ∙ ap (λ (n : ℕ). around (16 * n) (c.args.self.now.begins + c.args.self.now.used)) (c.ring_blocks.ensures.blocks whole) in
    record { place = e; within = omega (arith, e, round_in (16 * R) (c.args.self.now.begins + c.args.self.now.used) (omega (arith, c.requires.begins, c.requires.used))) }
