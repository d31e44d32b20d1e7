-- the booking is there, and the others are as they were
use Rattle.std.proofs.Common.{◌≡◌, ℕ, List, length, arith, rules}
use Rattle.records.specs.Words.{booking_read}
use Rattle.records.proofs.Parts.{stored, others, spared}
use Rattle.records.proofs.store_booking.Goals as goal

pub returns : goal.returns
returns c =
    let l : length c.write_booking.new.w ≡ 13 = search rules in
    record {
      this = stored (λ (v : List ℕ). booking_read v c.args.b.now.paid) 22 13 c.args.k _ _ _ _ c.args.b.now c.write_booking.ensures (omega arith) c.requires l (omega arith) (omega arith);
      others = λ j ne. others (λ (v : List ℕ). v) 22 13 c.args.k _ _ _ _ j ne (omega arith) c.requires l (omega arith) (omega arith);
      spare = λ j x h. spared 22 13 c.args.k _ _ _ _ j x h c.requires l (omega arith) (omega arith);
    }
