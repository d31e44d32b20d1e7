-- The two numbers stand at the front of zeros.
use Rattle.std.proofs.Common.{[], ◌∷◌, length, ap, ◌∙◌, arith}
use Rattle.wire.specs.Bytes.{row_of}
use Rattle.wire.proofs.Fields.{row_length}
use Rattle.journal_rows.specs.Bytes.{filled}
use Rattle.journal_rows.specs.Kinds.{kind_number}
use Rattle.journal_words.proofs.Pages.{first}
use Rattle.journal_fill.proofs.begin.Goals as goal

pub returns : goal.returns
returns c =
    let new = c.put_words.ensures ∙ ap (λ n. row_of 4 (n ∷ (c.args.number ∷ []))) c.from.ensures in
    first 512 8 c.put_words.new.part (omega (arith, ap length new, row_length 4 (kind_number c.args.kind ∷ (c.args.number ∷ [])))) ∙ ap filled new
