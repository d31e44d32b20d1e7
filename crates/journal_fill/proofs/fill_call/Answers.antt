-- The call's bytes stand right behind the two numbers.
use Rattle.std.proofs.Common.{List, [], ◌∷◌, ◌++◌, length, ap, ◌∙◌, arith}
use Rattle.wire.specs.Bytes.{row_of}
use Rattle.wire.proofs.Fields.{row_length}
use Rattle.journal_rows.specs.Bytes.{filled}
use Rattle.journal_words.proofs.Pages.{more}
use Rattle.journal_fill.proofs.fill_call.Goals as goal

pub returns : goal.returns
returns c =
    let bs : List _ = row_of 4 (5 ∷ (length c.args.call.now ∷ [])) in
    let new = c.copy_from_slice.ensures.after in
    let n = row_length 4 (5 ∷ (length c.args.call.now ∷ [])) in
    more 512 8 _ bs c.copy_from_slice.new.self c.begin.new.page c.begin.ensures (omega arith) (omega (arith, ap length new)) (omega (arith, ap length new)) ∙ ap (λ x. filled (bs ++ x)) new
