-- the fare is there, and the others are as they were
use Rattle.std.proofs.Common.{◌≡◌, length, ap, arith, rules}
use Rattle.records.specs.Words.{fare_read}
use Rattle.records.proofs.Parts.{stored, others, spared}
use Rattle.records.proofs.store_fare.Goals as goal

pub returns : goal.returns
returns c =
    let l : length c.copy_from_slice.new.self ≡ 5 = search rules in
    record {
      this = stored fare_read 24 5 c.args.k _ _ _ _ c.args.f.now (ap fare_read c.copy_from_slice.ensures.after) (omega arith) c.requires l (omega arith) (omega arith);
      others = λ j ne. others fare_read 24 5 c.args.k _ _ _ _ j ne (omega arith) c.requires l (omega arith) (omega arith);
      spare = λ j x h. spared 24 5 c.args.k _ _ _ _ j x h c.requires l (omega arith) (omega arith);
    }
