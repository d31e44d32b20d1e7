use Rattle.std.proofs.Common.{◌≡◌, take}
use Rattle.meaning.specs.Calls.{each_class}
use Rattle.store.specs.Whole.{house}
use Rattle.questions.proofs.ask_leg.Given as goal

-- the counts written so far
abbrev pub invariant-loop-class : goal.invariant-loop-class
invariant-loop-class l = take l.class l.count-items ≡ each_class (house l.m).bookings l.i 0 l.class
