-- The numbers of the line are the leg's, and what is taken on it.
use Rattle.std.proofs.Common.{arith}
use Rattle.records.specs.Means.{leg_means}
use Rattle.store.specs.Whole.{house}
use Rattle.session.proofs.Counts.{few_counts}
use Rattle.sales.proofs.Told.{sold_on, line_is, line_told}
use Rattle.sales.proofs.lines.leg_line.Goals as goal

pub overflow_cast-i : goal.overflow_cast-i
overflow_cast-i c = omega (arith, c.requires.there, (few_counts c.args.m.now c.requires.sound).0)

pub returns : goal.returns
returns c =
    let h = house c.args.m.now in
    let taken = sold_on c.args.m.now.limits h c.args.i c.ask_leg-listed.result.answer _ c.requires.there c.ask_leg-listed.ensures.meant in
    line_told c.format.result _ h c.args.i c.format.ensures.ok (line_is h c.args.i (leg_means c.leg-leg.result) _ c.leg-leg.ensures.means taken)
