-- Out of range, or a fare of its numbers.
use Rattle.std.proofs.Common.{ℕ, List, sym, ap, ◌∙◌}
use Rattle.meaning.specs.Calls.{good_fields}
use Rattle.records.specs.Words.{fare_read}
use Rattle.records.specs.Means.{fare_means}
use Rattle.store.proofs.Ranges.{fare_fine}
use Rattle.checks.specs.Ranges.{fare_fits}
use Rattle.journal_ranges.proofs.Fits.{never}
use Rattle.journal_records.proofs.Placed.{placed}
use Rattle.journal_records.proofs.FareRecord.read.Goals as goal

pub returns-then-not-fare_in_range : goal.returns-then-not-fare_in_range
unfolding good_fields
returns-then-not-fare_in_range c =
    let is = c.words_at.ensures ∙ placed 5 c.args.page.now c.args.k in
    λ f h. never (c.if-not-fare_in_range.ensures ∙ ap (λ (w : List ℕ). fare_fits (fare_read w)) is ∙ f)

pub returns : goal.returns
unfolding good_fields
returns c =
    let is = c.words_at.ensures ∙ placed 5 c.args.page.now c.args.k in
    (ap (λ (w : List ℕ). fare_means (fare_read w)) is, fare_fine (fare_read c.words_at.new.out) (sym c.if-not-fare_in_range.ensures))
