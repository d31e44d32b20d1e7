use Rattle.std.proofs.Common.{refl}
use Rattle.calls.proofs.Performed.{meant}
use Rattle.every_call.proofs.EveryCallStage.change_limits.Goals as goal

pub returns : goal.returns
returns c = let e = c.change_limits.ensures in meant _ _ _ _ _ _ refl e.meant e.lent
