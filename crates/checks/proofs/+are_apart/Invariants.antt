use Rattle.std.proofs.Common.{length}
use Rattle.checks.proofs.+are_apart.Given as goal

-- the legs left get fewer
abbrev pub decreases-are_apart : goal.decreases-are_apart
decreases-are_apart l = length l.journey.now
