use Rattle.protocol.proofs.Wholes.{nothing_lost}
use Rattle.protocol.proofs.nothing_lost.Goals as goal

pub returns : goal.returns
returns c = nothing_lost
