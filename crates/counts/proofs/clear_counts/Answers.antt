-- the leg's 26 counts are zero, and all else is as it was
use Rattle.std.proofs.Common.{◌≡◌, ℕ, ◌+◌, ◌-◌, ◌*◌, ◌≤◌, List, length, get_or, ap, ◌∙◌, arith, rules}
use Rattle.std.proofs.lemmas.List.{get_or-replicate}
use Rattle.records.specs.Words.{leg_read}
use Rattle.records.proofs.Parts.{beside, inside, outside}
use Rattle.counts.proofs.Shares.{off_counts, off_others}
use Rattle.counts.proofs.clear_counts.Goals as goal

pub returns : goal.returns
returns c =
    let e : (c.args.i * 128 + 57) - (c.args.i * 128 + 31) ≡ 26 = omega arith in
    let p : c.args.i * 128 + 31 + 26 ≤ length c.args.legs.now = omega arith in
    let l : length c.copy_from_slice.new.self ≡ 26 = search rules in
    simp e (record {
      nothing = λ x h. inside (c.args.i * 128 + 31) 26 x _ _ _ (omega arith) (omega arith) (omega arith) ∙ ap (λ (v : List ℕ). get_or v x 0) c.copy_from_slice.ensures.after ∙ get_or-replicate 26 x 0 0 h;
      others = λ j x h f. outside (c.args.i * 128 + 31) 26 (j * 128 + 31 + x) _ _ p l (off_others j c.args.i x h f);
      legs = λ j. ap leg_read (beside (c.args.i * 128 + 31) (j * 128) 26 31 _ _ p l (off_counts j c.args.i));
    })
