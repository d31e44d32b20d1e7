-- a limit without room passes a booking over; one that waits and passes every leg and class is the first
use Rattle.std.proofs.Common.{◌≡◌, ℕ, false, [], ◌∷◌, length, get_or, Some, None, sym, ap, ◌∙◌, arith, below_more}
use Rattle.std.proofs.lemmas.Bool.{eq-eqb, eqb-true, and_from, and_right}
use Rattle.meaning.specs.House.{Booking, House, room}
use Rattle.store.specs.Whole.{house}
use Rattle.seating.specs.Serving.{First, NoneBelow, fits}
use Rattle.seating.proofs.Rooms.{leg_fits, leg_fails, legs_fit, leg_blocks}
use Rattle.seating.proofs.Turns.{found_one}
use Rattle.seating.proofs.first_fit.Goals as goal

pub bookings-preserved : goal.bookings-preserved
bookings-preserved c =
    let h : House = house c.args.memory.now in
    let class : ℕ = c.booking-b.result.class in
    let seats : ℕ = c.booking-b.result.seats in
    let i : ℕ = get_or c.booking-b.result.legs c.loop-x.x 0 in
    let full : room h.legs h.bookings (i ∷ []) class seats ≡ false =
    leg_fails h.legs h.bookings class seats i c.leg-g.result c.leg-g.ensures.means (omega (arith, c.leg-g.ensures.fine.classes, c.leg-g.ensures.whole)) c.loop-c.c
    (omega (arith, c.classes_to-c-end.ensures)) (omega (arith, c.taken.ensures.is)) in
    below_more _ _ c.bookings.invariant (
    ap (λ (b : Booking). fits h b) (sym c.booking-b.ensures.means)
    ∙ and_right _ _ (leg_blocks h.legs h.bookings class seats c.booking-b.result.legs c.booking-b.result.count c.loop-x.x
    (omega (arith, c.booking-b.ensures.fine.few, c.booking-b.ensures.whole)) c.loop-x-test.true full))

pub loop-x-preserved : goal.loop-x-preserved
loop-x-preserved c =
    let h : House = house c.args.memory.now in
    below_more _ _ c.loop-x.invariant
    (leg_fits h.legs h.bookings c.booking-b.result.class c.booking-b.result.seats (get_or c.booking-b.result.legs c.loop-x.x 0) c.leg-g.result c.leg-g.ensures.means
    (omega (arith, c.leg-g.ensures.fine.classes, c.leg-g.ensures.whole)) (λ j q. c.loop-c.invariant j (omega (arith, c.classes_to-c-end.ensures))))

pub returns-in-bookings : goal.returns-in-bookings
returns-in-bookings c =
    let h : House = house c.args.memory.now in
    let waits : c.booking-b.result.stands ≡ 0 = eqb-true _ _ (sym c.if-not-is_waiting.ensures) in
    let first : First h c.bookings.k = record {
      there = omega (arith, c.booking_count-k-end.ensures);
      can =
          ap (λ (b : Booking). fits h b) (sym c.booking-b.ensures.means)
          ∙ and_from _ _ (eq-eqb c.booking-b.result.stands 0 waits)
          (legs_fit h.legs h.bookings c.booking-b.result.class c.booking-b.result.seats c.booking-b.result.legs c.booking-b.result.count
          (omega (arith, c.booking-b.ensures.fine.few, c.booking-b.ensures.whole)) (λ y q. c.loop-x.invariant y (omega arith)));
      before = c.bookings.invariant;
    } in
    record { first = first; serves = found_one h (Some c.bookings.k) first }

pub returns : goal.returns
returns c =
    let h : House = house c.args.memory.now in
    let none : NoneBelow h (length h.bookings) = λ j q. c.bookings.invariant j (omega (arith, c.booking_count-k-end.ensures)) in
    record { first = none; serves = found_one h None none }
