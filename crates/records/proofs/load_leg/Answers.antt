-- the part lent to be read is the leg's 31 words
use Rattle.std.proofs.Common.{◌≡◌, ◌+◌, ◌-◌, ◌*◌, arith}
use Rattle.records.proofs.load_leg.Goals as goal

pub returns : goal.returns
returns c = let e : (c.args.i * 128 + 31) - c.args.i * 128 ≡ 31 = omega arith in grind arith
