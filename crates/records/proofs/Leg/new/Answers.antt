-- the limits stand at the front of the array
use Rattle.std.proofs.Common.{length, replicate, refl}
use Rattle.records.proofs.Parts.{front}
use Rattle.records.proofs.Leg.new.Goals as goal

pub returns : goal.returns
returns c = λ d. record {
  from = c.args.from;
  to = c.args.to;
  leaves = c.args.leaves;
  arrives = c.args.arrives;
  classes = length c.args.limits.now;
  limits = front 26 (replicate 26 0) c.args.limits.now c.copy_from_slice.new.self refl c.copy_from_slice.ensures.after d;
}
