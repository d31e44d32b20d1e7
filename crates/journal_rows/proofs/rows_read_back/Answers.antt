-- The theorem on what was written.
use Rattle.journal_rows.proofs.ReadBack.{reads_back}
use Rattle.journal_rows.proofs.rows_read_back.Goals as goal

pub returns : goal.returns
returns c = reads_back
