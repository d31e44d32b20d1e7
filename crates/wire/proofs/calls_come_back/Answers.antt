-- The theorems on what was encoded.
use Rattle.wire.proofs.Back.{calls_come_back, none_alike}
use Rattle.wire.proofs.calls_come_back.Goals as goal

pub returns : goal.returns
returns c = (calls_come_back, none_alike)
