-- leg by leg: one without room is enough, and where there is none the journey has room
use Rattle.std.proofs.Common.{sym, ◌∙◌, arith}
use Rattle.store.specs.Whole.{house}
use Rattle.seating.proofs.Rooms.{all_fit, one_fails}
use Rattle.seating.proofs.has_room.Goals as goal

pub returns-then-not-has_room_on : goal.returns-then-not-has_room_on
returns-then-not-has_room_on c =
    sym (one_fails (house c.args.memory.now).legs (house c.args.memory.now).bookings c.args.class c.args.seats c.args.legs.now c.loop-i.i-index c.loop-i-test.true
    (sym c.has_room_on.ensures ∙ c.if-not-has_room_on.true))

pub returns : goal.returns
returns c =
    sym (all_fit (house c.args.memory.now).legs (house c.args.memory.now).bookings c.args.class c.args.seats c.args.legs.now (λ y h. c.loop-i.invariant y (omega arith)))
