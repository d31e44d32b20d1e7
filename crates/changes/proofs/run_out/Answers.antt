-- Booking after booking is passed, and what is over is gone.
use Rattle.std.proofs.Common.{◌+◌, ◌<◌, length, sym, subst, arith}
use Rattle.store.specs.Whole.{house}
use Rattle.store.specs.declared.Memory.{Memory}
use Rattle.changes.proofs.Timed.{Passed, passing_begins, passing_length, passing_gone, passing_stays, passing_ends}
use Rattle.changes.proofs.run_out.Goals as goal

pub loop-k-init : goal.loop-k-init
loop-k-init c = passing_begins c.args.m.now c.args.tick

pub is_over-requires : goal.is_over-requires
is_over-requires c = record {
  there = omega (arith, passing_length c.args.m.now c.loop-k.m c.args.tick c.loop-k.k c.loop-k.invariant, c.booking_count-k-end.ensures);
}

pub set_stand-requires : goal.set_stand-requires
set_stand-requires c = record {
  there = omega (arith, passing_length c.args.m.now c.loop-k.m c.args.tick c.loop-k.k c.loop-k.invariant, c.booking_count-k-end.ensures);
}

pub loop-k-preserved : goal.loop-k-preserved
loop-k-preserved c =
    let m = c.args.m.now in
    let n = c.loop-k.m in
    let t = c.args.tick in
    let k = c.loop-k.k in
    let next : k < length (house m).bookings = omega (arith, c.booking_count-k-end.ensures) in
    elim c.if-is_over.branch [
      | goal.then-is_over w ↦ subst (λ (p : Memory). Passed m p t (k + 1)) (sym w.m-is)
          (passing_gone m n t k c.loop-k.invariant next w.set_stand.new.self w.if-is_over.ensures w.set_stand.ensures.house w.set_stand.ensures.lent)
      | goal.else-is_over w ↦ subst (λ (p : Memory). Passed m p t (k + 1)) (sym w.m-is) (passing_stays m n t k c.loop-k.invariant next w.if-is_over.ensures)
    ]

pub returns : goal.returns
returns c = record {
  house = passing_ends c.args.m.now c.loop-k.m c.args.tick c.loop-k.k c.loop-k.invariant (omega (arith, c.booking_count-k-end.ensures));
  lent = c.loop-k.invariant.lent;
}
