-- class by class the least that is left, and that is the most for which there is room
use Rattle.std.proofs.Common.{◌≡◌, ℕ, ◌+◌, ◌-◌, min, List, get_or, subst, arith}
use Rattle.meaning.specs.House.{Booking, taken}
use Rattle.store.specs.Whole.{house}
use Rattle.seating.proofs.Frees.{Least, least_none, least_more, least_is}
use Rattle.seating.proofs.free_seats.Goals as goal

pub loop-c-init : goal.loop-c-init
loop-c-init c = least_none _ _ _ 1000

pub loop-c-preserved : goal.loop-c-preserved
loop-c-preserved c =
    let bs : List Booking = (house c.args.memory.now).bookings in
    let left : min c.loop-c.free (get_or c.leg-g.result.limits c.loop-c.c 0 - taken bs c.args.i c.loop-c.c) ≡ c.min-free.result = omega (arith, c.taken.ensures.is, c.saturating_sub.ensures, c.min-free.ensures) in
    subst (λ (v : ℕ). Least bs c.args.i c.leg-g.result 1000 (c.loop-c.c + 1) v) left (least_more bs c.args.i c.leg-g.result 1000 c.loop-c.c c.loop-c.free c.loop-c.invariant)

pub returns : goal.returns
returns c =
    let all : c.loop-c.c ≡ min (c.args.class + 1) c.leg-g.result.classes = omega (arith, c.classes_to-c-end.ensures) in
    least_is (house c.args.memory.now).legs (house c.args.memory.now).bookings c.args.i c.args.class c.leg-g.result c.leg-g.ensures.means
    (omega (arith, c.leg-g.ensures.fine.classes, c.leg-g.ensures.whole)) 1000 c.loop-c.free
    (subst (λ (v : ℕ). Least (house c.args.memory.now).bookings c.args.i c.leg-g.result 1000 v c.loop-c.free) all c.loop-c.invariant)
