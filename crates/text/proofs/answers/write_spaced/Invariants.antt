use Rattle.std.proofs.Common.{◌≡◌, map, take, decimal, Some}
use Rattle.scan.specs.Words.{spaced}
use Rattle.std.specs.Fmt.{IsPlainFormatter, HasWritten}
use Rattle.text.proofs.answers.write_spaced.Given as goal

abbrev pub invariant-loop-number : goal.invariant-loop-number
invariant-loop-number g l =
    (v : _) → ((n : _) → g.N.Display.output n ≡ Some (decimal (v n))) → IsPlainFormatter l.initial.f
    → HasWritten g.W.Write.write_str_gives l.initial.f (spaced (take l.number-index (map v l.numbers))) l.f
