-- The words fill the part.
use Rattle.std.proofs.Common.{ap, ◌∙◌, arith}
use Rattle.wire.proofs.Fields.{row_length}
use Rattle.wire.proofs.Written.{same_row}
use Rattle.wire.specs.Bytes.{over, row_of}
use Rattle.journal_words.proofs.Pages.{whole}
use Rattle.journal_words.proofs.put_words.Goals as goal

pub returns : goal.returns
returns c =
    c.put_numbers.ensures.after
    ∙ (ap (λ x. over 0 x c.args.part.now) (same_row 4 c.args.words.now) ∙ whole (row_of 4 c.args.words.now) c.args.part.now (omega (arith, row_length 4 c.args.words.now)))
