use Rattle.store.specs.Whole.{Lent, Sound, house}
use Rattle.every_call.specs.Stage.{stage}
use Rattle.journal_start.specs.Stages.{StageFits, reading_of}
use Rattle.journal_start.proofs.Follows.{Follows}
use Rattle.driver.proofs.Starts.{unread_pages}
use Rattle.driver.proofs.take_up.Given as goal

abbrev pub invariant-loop-number : goal.invariant-loop-number
invariant-loop-number g l = Sound l.m × StageFits l.m l.start × Lent l.initial.m l.m × Follows (g.D.Device.chip l.device) l.m l.start

abbrev pub decreases-loop-number : goal.decreases-loop-number
decreases-loop-number g l = unread_pages (stage l.m) (reading_of (stage l.m) l.start (house l.m))
