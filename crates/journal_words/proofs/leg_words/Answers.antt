-- The leg's numbers stand at the front, and its limits behind them.
use Rattle.std.proofs.Common.{length, ap, ◌∙◌, arith, rules}
use Rattle.records.specs.declared.Leg.{Leg}
use Rattle.journal_words.proofs.Words.{leg_put, leg_long, whole_part}
use Rattle.journal_words.proofs.leg_words.Goals as goal

pub returns : goal.returns
returns c =
    let g : Leg = c.args.g.now in
    let w = leg_put g _ c.copy_from_slice.new.self c.copy_from_slice-2.new.self c.requires (search rules) (omega arith) c.copy_from_slice.ensures.after (c.copy_from_slice-2.ensures.after ∙ whole_part g.classes g.limits) in
    record { words = w; long = ap length w ∙ leg_long g c.requires }
