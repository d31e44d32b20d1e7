-- What stands on the first page of a slot.
use Rattle.journal_house.proofs.Right.{known_chip}
use Rattle.journal_house.proofs.known_chip.Goals as goal

pub returns : goal.returns
returns c = known_chip
