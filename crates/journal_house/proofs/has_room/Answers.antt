-- Slots and ring have room.
use Rattle.journal_house.proofs.Laws.{roomy}
use Rattle.journal_house.proofs.has_room.Goals as goal

pub returns : goal.returns
returns c = roomy
