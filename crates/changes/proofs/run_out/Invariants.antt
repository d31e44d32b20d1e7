use Rattle.changes.proofs.Timed.{Passed}
use Rattle.changes.proofs.run_out.Given as goal

-- the first k bookings were passed
abbrev pub invariant-loop-k : goal.invariant-loop-k
invariant-loop-k l = Passed l.initial.m l.m l.tick l.k
