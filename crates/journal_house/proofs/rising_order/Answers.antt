-- Pages are written in rising order.
use Rattle.journal_house.proofs.Right.{rises}
use Rattle.journal_house.proofs.rising_order.Goals as goal

pub returns : goal.returns
returns c = rises
