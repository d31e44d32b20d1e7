-- The theorems on what was decoded.
use Rattle.wire.proofs.Back.{bytes_come_back, calls_fit}
use Rattle.wire.proofs.bytes_come_back.Goals as goal

pub returns : goal.returns
returns c = (bytes_come_back, calls_fit)
