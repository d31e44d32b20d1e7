use Rattle.store.specs.Whole.{Sound}
use Rattle.every_call.specs.Stage.{Idle}
use Rattle.power_bench.proofs.play.Given as goal

abbrev pub invariant-loop-line : goal.invariant-loop-line
invariant-loop-line l = Sound l.m × Idle l.m
