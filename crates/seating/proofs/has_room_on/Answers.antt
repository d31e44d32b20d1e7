-- class by class: a limit without room is one that fails, and where none does there is room
use Rattle.std.proofs.Common.{sym, arith}
use Rattle.store.specs.Whole.{house}
use Rattle.seating.proofs.Rooms.{leg_fits, leg_fails}
use Rattle.seating.proofs.has_room_on.Goals as goal

pub returns-then-taken-seats : goal.returns-then-taken-seats
returns-then-taken-seats c =
    sym (leg_fails (house c.args.memory.now).legs (house c.args.memory.now).bookings c.args.class c.args.seats c.args.i c.leg-g.result c.leg-g.ensures.means
    (omega (arith, c.leg-g.ensures.fine.classes, c.leg-g.ensures.whole)) c.loop-c.c (omega (arith, c.classes_to-c-end.ensures)) (omega (arith, c.taken.ensures.is)))

pub returns : goal.returns
returns c =
    sym (leg_fits (house c.args.memory.now).legs (house c.args.memory.now).bookings c.args.class c.args.seats c.args.i c.leg-g.result c.leg-g.ensures.means
    (omega (arith, c.leg-g.ensures.fine.classes, c.leg-g.ensures.whole)) (λ j h. c.loop-c.invariant j (omega (arith, c.classes_to-c-end.ensures))))
