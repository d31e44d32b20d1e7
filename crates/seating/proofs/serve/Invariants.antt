use Rattle.meaning.proofs.Serve.{waiting}
use Rattle.store.specs.Whole.{house}
use Rattle.seating.proofs.Turns.{OnTheWay}
use Rattle.seating.proofs.serve.Given as goal

abbrev pub invariant-loop-k : goal.invariant-loop-k
invariant-loop-k l = OnTheWay l.initial.memory l.memory l.until

-- each turn leaves one fewer waiting
abbrev pub decreases-loop-k : goal.decreases-loop-k
decreases-loop-k l = waiting (house l.memory).bookings
