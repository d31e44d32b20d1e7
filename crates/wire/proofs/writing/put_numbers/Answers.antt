-- Each turn writes one number right behind the others.
use Rattle.std.proofs.Common.{sym, arith}
use Rattle.std.proofs.Math.Nat.{mul-add}
use Rattle.wire.specs.Bytes.{row_of}
use Rattle.wire.proofs.Written.{over_none, row_more}
use Rattle.wire.proofs.writing.put_numbers.Goals as goal

pub loop-number-init : goal.loop-number-init
unfolding row_of
loop-number-init g c = record { behind = omega arith; written = sym (over_none c.args.at c.args.out.now) }

pub loop-number-preserved : goal.loop-number-preserved
loop-number-preserved g c = record {
  behind = omega (arith, mul-add g.N.FixedWidth.WIDTH c.loop-number.number-index 1, c.loop-number.invariant.behind, c.WIDTH.ensures);
  written = row_more g.N.FixedWidth.value g.N.FixedWidth.WIDTH c.args.at _ _ c.loop-number.number-index c.args.numbers.now c.number-item.result c.args.out.now c.loop-number.out c.put.new.field
      c.loop-number-test.true c.requires c.number-item.is c.put.ensures c.loop-number.invariant.written (omega arith) c.loop-number.invariant.behind;
}
