use Rattle.std.proofs.Common.{refl}
use Rattle.calls.proofs.Performed.{promised}
use Rattle.player.proofs.statements_hold.Goals as goal

pub returns : goal.returns
returns c l d cs r = promised l _ (cs, refl)
