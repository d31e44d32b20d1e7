-- The theorem on the longest call.
use Rattle.std.proofs.Common.{refl}
use Rattle.wire.proofs.Back.{most_bytes}
use Rattle.wire.proofs.most_call_bytes.Goals as goal

pub returns : goal.returns
returns c = (refl, most_bytes)
