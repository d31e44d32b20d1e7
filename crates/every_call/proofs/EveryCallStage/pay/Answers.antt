use Rattle.std.proofs.Common.{refl}
use Rattle.calls.proofs.Performed.{meant}
use Rattle.every_call.proofs.EveryCallStage.pay.Goals as goal

pub returns : goal.returns
returns c = let e = c.pay.ensures in meant _ _ _ _ _ _ refl e.meant e.lent
