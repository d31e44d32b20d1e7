-- the two parts that are written are the leg's words
use Rattle.std.proofs.Common.{rules}
use Rattle.records.proofs.Parts.{leg_wrote}
use Rattle.records.proofs.write_leg.Goals as goal

pub returns : goal.returns
returns c =
    leg_wrote c.args.g.now c.args.w.now c.copy_from_slice.new.self c.copy_from_slice-2.new.self (search rules) (search rules) (search rules)
    c.copy_from_slice.ensures.after c.copy_from_slice-2.ensures.after
