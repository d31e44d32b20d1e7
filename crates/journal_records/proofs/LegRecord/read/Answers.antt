-- Too many limits, out of range, or a leg of its numbers.
use Rattle.std.proofs.Common.{◌≡◌, ℕ, ◌≤◌, true, false, length, get_or, sym, ap, ◌∙◌, arith}
use Rattle.records.specs.Words.{leg_read}
use Rattle.records.specs.Means.{leg_means}
use Rattle.records.specs.declared.Leg.{Leg}
use Rattle.store.proofs.Ranges.{leg_fine}
use Rattle.journal_rows.specs.Sorts.{record_of}
use Rattle.journal_ranges.proofs.Fits.{range}
use Rattle.journal_records.proofs.Placed.{placed}
use Rattle.journal_records.proofs.LegRecord.read.Goals as goal

pub returns-then-leg-gt26 : goal.returns-then-leg-gt26
returns-then-leg-gt26 c =
    let is = c.read_leg-leg.ensures ∙ ap leg_read (c.words_at.ensures ∙ placed 31 c.args.page.now c.args.k) in
    let n : c.read_leg-leg.result.classes ≡ get_or (record_of 31 c.args.page.now c.args.k) 4 0 = ap (λ (g : Leg). g.classes) is in
    λ f h. omega (arith, n, c.if-leg-gt26.true)

pub returns-then-not-leg_in_range : goal.returns-then-not-leg_in_range
returns-then-not-leg_in_range c =
    let is = c.read_leg-leg.ensures ∙ ap leg_read (c.words_at.ensures ∙ placed 31 c.args.page.now c.args.k) in
    λ f h. let t : false ≡ true = c.if-not-leg_in_range.ensures ∙ ap range is ∙ f in let z : ◌≡◌ {A = ℕ} 0 1 = cc in omega arith

pub returns : goal.returns
returns c =
    let is = c.read_leg-leg.ensures ∙ ap leg_read (c.words_at.ensures ∙ placed 31 c.args.page.now c.args.k) in
    let n : c.read_leg-leg.result.classes ≤ length c.read_leg-leg.result.limits = omega arith in
    (ap leg_means is, leg_fine c.read_leg-leg.result n (sym c.if-not-leg_in_range.ensures))
