-- No chip that holds a house is refused.
use Rattle.journal_start.proofs.Accepts.{accepts_houses}
use Rattle.journal_start.proofs.accepts_houses.Goals as goal

pub returns : goal.returns
returns c = accepts_houses
