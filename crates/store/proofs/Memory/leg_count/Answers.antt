-- as many as there are in the list
use Rattle.std.proofs.Common.{sym}
use Rattle.store.proofs.Lists.{length_legs}
use Rattle.store.proofs.Memory.leg_count.Goals as goal

pub returns : goal.returns
returns c = sym (length_legs c.args.self.now.legs.now c.args.self.now.opened)
