-- The numbers written so far stand one behind the other, and the next one comes right behind them.
use Rattle.std.proofs.Common.{◌≡◌, ◌+◌, ◌*◌, map, take}
use Rattle.wire.specs.Bytes.{row_of, over}
use Rattle.wire.proofs.writing.put_numbers.Given as goal

abbrev pub invariant-loop-number : goal.invariant-loop-number
invariant-loop-number g l = record {
  behind : l.place ≡ l.at + g.N.FixedWidth.WIDTH * l.number-index;
  written : l.out ≡ over l.at (row_of g.N.FixedWidth.WIDTH (map g.N.FixedWidth.value (take l.number-index l.numbers))) l.initial.out;
}
