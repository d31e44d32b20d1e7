-- The main promise.
use Rattle.journal_house.proofs.Right.{right_by_reading}
use Rattle.journal_house.proofs.right_by_reading.Goals as goal

pub returns : goal.returns
returns c = right_by_reading
