use Rattle.std.proofs.Common.{◌≡◌, length}
use Rattle.session.specs.Acts.{pending}
use Rattle.driver.specs.Played.{Progress, Kept}
use Rattle.driver.proofs.finish.Given as goal

abbrev pub invariant-loop-device : goal.invariant-loop-device
invariant-loop-device g l =
    Progress (g.D.Device.chip l.initial.device) (g.D.Device.told l.initial.device) (pending l.initial.session l.m) (pending l.session l.m) (g.D.Device.chip l.device) (g.D.Device.told l.device)
    × Kept l.initial.session l.session l.m × (g.D.Device.blocks l.device ≡ g.D.Device.blocks l.initial.device)

abbrev pub decreases-loop-device : goal.decreases-loop-device
decreases-loop-device g l = length (pending l.session l.m)
