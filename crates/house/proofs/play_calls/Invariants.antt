use Rattle.meaning.specs.Statements.{Reached}
use Rattle.store.specs.Whole.{house}
use Rattle.calls.specs.Stage.{stage}
use Rattle.house.proofs.play_calls.Given as goal

abbrev pub invariant-loop-line : goal.invariant-loop-line
invariant-loop-line l = Reached (stage l.m) (house l.m)
