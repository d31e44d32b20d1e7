-- A call does few acts.
use Rattle.journal_house.proofs.Right.{calls_fast}
use Rattle.journal_house.proofs.few_acts.Goals as goal

pub returns : goal.returns
returns c = calls_fast
