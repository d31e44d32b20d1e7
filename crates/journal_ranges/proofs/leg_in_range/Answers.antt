-- Each test in its turn; the last one decides.
use Rattle.std.proofs.Common.{◌≡◌, length, take, sym, ap, ◌∙◌, arith}
use Rattle.std.proofs.lemmas.List.{length-take-le}
use Rattle.meaning.specs.Calls.{falling, all_to}
use Rattle.checks.specs.Ranges.{schedule_fits}
use Rattle.journal_words.proofs.Words.{whole_part}
use Rattle.journal_ranges.proofs.Fits.{not_times, no_limits, not_falling, by_small}
use Rattle.journal_ranges.proofs.leg_in_range.Goals as goal

pub returns-then-not-is_in_range : goal.returns-then-not-is_in_range
returns-then-not-is_in_range c = not_times c.args.leg.now (ap schedule_fits (sym c.of.ensures) ∙ sym c.if-not-is_in_range.ensures)

pub returns-then-leg-lt1 : goal.returns-then-leg-lt1
returns-then-leg-lt1 c =
    let g = c.args.leg.now in
    no_limits g (omega (arith, length-take-le g.classes g.limits (omega arith)))

pub returns-then-not-are_falling : goal.returns-then-not-are_falling
returns-then-not-are_falling c =
    let g = c.args.leg.now in
    not_falling g (ap falling (sym (whole_part g.classes g.limits)) ∙ sym c.if-not-are_falling.ensures)

pub returns : goal.returns
returns c =
    let g = c.args.leg.now in
    let n : length (take g.classes g.limits) ≡ g.classes = length-take-le g.classes g.limits (omega arith) in
    c.are_small.ensures ∙ ap (all_to 1000) (whole_part g.classes g.limits)
    ∙ by_small g (ap schedule_fits (sym c.of.ensures) ∙ sym c.if-not-is_in_range.ensures) (omega arith) (omega arith) (ap falling (sym (whole_part g.classes g.limits)) ∙ sym c.if-not-are_falling.ensures)
