use Rattle.std.proofs.Common.{◌≡◌, ◌-◌, take}
use Rattle.scan.specs.Words.{numbers_in, onto}
use Rattle.scan.proofs.read_numbers.Given as goal

abbrev pub invariant-loop-value : goal.invariant-loop-value
invariant-loop-value l = numbers_in l.value-index-end l.line ≡ onto (take l.value-index l.value-items) (numbers_in (l.value-index-end - l.value-index) l.rest)
