-- the leg is there, and the other legs and the words behind all legs are as they were
use Rattle.std.proofs.Common.{◌≡◌, length, arith, rules}
use Rattle.records.specs.Words.{leg_read}
use Rattle.records.proofs.Parts.{stored, others, spared}
use Rattle.records.proofs.store_leg.Goals as goal

pub returns : goal.returns
returns c =
    let l : length c.write_leg.new.w ≡ 31 = search rules in
    record {
      this = stored leg_read 128 31 c.args.i _ _ _ _ c.args.g.now c.write_leg.ensures (omega arith) c.requires l (omega arith) (omega arith);
      others = λ j ne. others leg_read 128 31 c.args.i _ _ _ _ j ne (omega arith) c.requires l (omega arith) (omega arith);
      beside = λ j x h. spared 128 31 c.args.i _ _ _ _ j x h c.requires l (omega arith) (omega arith);
    }
