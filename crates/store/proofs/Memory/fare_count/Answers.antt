-- as many as there are in the list
use Rattle.std.proofs.Common.{sym}
use Rattle.store.proofs.Lists.{length_fares}
use Rattle.store.proofs.Memory.fare_count.Goals as goal

pub returns : goal.returns
returns c = sym (length_fares c.args.self.now.fares.now c.args.self.now.filed)
