-- The checks of a booking in their order; then it is pushed, and served if there is room.
use Rattle.std.proofs.Common.{◌≡◌, ◌+◌, length, sym, refl, ap, ◌∙◌, subst, arith}
use Rattle.std.proofs.lemmas.Bool.Decides.{nat_tests}
use Rattle.meaning.specs.Lines.{Leg, leg}
use Rattle.meaning.specs.House.{House, first_leg}
use Rattle.meaning.specs.Calls.{turned_by, place, the_booking}
use Rattle.limits.specs.declared.Limits.{Limits}
use Rattle.records.specs.Means.{booking_means}
use Rattle.records.proofs.News.{booking_of_means}
use Rattle.seating.proofs.Newest.{newcomer}
use Rattle.seating.specs.Serving.{Newcomer, all_served, last}
use Rattle.store.specs.Range.{FineBooking}
use Rattle.store.specs.Whole.{house, plus_booking}
use Rattle.store.proofs.Lents.{lent_both}
use Rattle.store.proofs.Ranges.{new_booking_fine}
use Rattle.checks.proofs.Steps.{there_tells}
use Rattle.checks.proofs.Verdicts.{refuses, takes}
use Rattle.calls.proofs.Booked.{as_number, asked, books_range, first_is, leaves, says}
use Rattle.calls.proofs.book_on.Goals as goal

pub returns-then-not-are_there-clause-meant : goal.returns-then-not-are_there-clause-meant
unfolding turned_by place
returns-then-not-are_there-clause-meant c = refuses _ _ _ _ _ _ c.at.ensures refl refl (books_range _ _ _ c.requires.asks) (λ can. grind (arith, c.if-not-are_there.ensures))

pub connect-requires : goal.connect-requires
connect-requires c = record { there = there_tells (house c.args.m.now).legs c.args.seats.class c.args.legs.now (sym c.if-not-are_there.ensures) }

pub returns-then-not-connect-clause-meant : goal.returns-then-not-connect-clause-meant
unfolding turned_by place
returns-then-not-connect-clause-meant c = refuses _ _ _ _ _ _ c.at-then-not-connect.ensures refl refl (books_range _ _ _ c.requires.asks) (λ can. grind (arith, c.if-not-are_there.ensures, c.if-not-connect.ensures))

pub returns-then-not-are_apart-clause-meant : goal.returns-then-not-are_apart-clause-meant
unfolding turned_by place
returns-then-not-are_apart-clause-meant c = refuses _ _ _ _ _ _ c.at-then-not-are_apart.ensures refl refl (books_range _ _ _ c.requires.asks) (λ can. grind (arith, c.if-not-are_there.ensures, c.if-not-connect.ensures, c.if-not-are_apart.ensures))

pub leg-requires : goal.leg-requires
leg-requires c = record { there = there_tells (house c.args.m.now).legs c.args.seats.class c.args.legs.now (sym c.if-not-are_there.ensures) 0 c.requires.asks.some }

pub returns-then-leg-clock-clause-meant : goal.returns-then-leg-clock-clause-meant
unfolding turned_by place
returns-then-leg-clock-clause-meant c =
    let leaves : (leg (house c.args.m.now).legs (first_leg c.args.legs.now)).leaves ≡ c.leg.result.leaves = ap (λ i. (leg (house c.args.m.now).legs i).leaves) (first_is c.args.legs.now) ∙ sym (ap (λ (g : Leg). g.leaves) c.leg.ensures.means) in
    refuses _ _ _ _ _ _ c.at-then-leg-clock.ensures refl refl (books_range _ _ _ c.requires.asks) (λ can. grind (arith, nat_tests, leaves, c.clock.ensures, c.if-not-are_there.ensures, c.if-not-connect.ensures, c.if-not-are_apart.ensures))

pub price-requires : goal.price-requires
price-requires c = record { few = c.requires.asks.few; there = there_tells (house c.args.m.now).legs c.args.seats.class c.args.legs.now (sym c.if-not-are_there.ensures) }

pub returns-in_default-clause-meant : goal.returns-in_default-clause-meant
unfolding turned_by place
returns-in_default-clause-meant c =
    let leaves : (leg (house c.args.m.now).legs (first_leg c.args.legs.now)).leaves ≡ c.leg.result.leaves = ap (λ i. (leg (house c.args.m.now).legs i).leaves) (first_is c.args.legs.now) ∙ sym (ap (λ (g : Leg). g.leaves) c.leg.ensures.means) in
    refuses _ _ _ _ _ _ c.at-in_default.ensures refl refl (books_range _ _ _ c.requires.asks) (λ can. grind (arith, nat_tests, leaves, c.clock.ensures, c.if-not-are_there.ensures, c.if-not-connect.ensures, c.if-not-are_apart.ensures, c.in_default.ensures.value))

pub returns-in_default-next_number-clause-meant : goal.returns-in_default-next_number-clause-meant
unfolding turned_by place
returns-in_default-next_number-clause-meant c =
    let leaves : (leg (house c.args.m.now).legs (first_leg c.args.legs.now)).leaves ≡ c.leg.result.leaves = ap (λ i. (leg (house c.args.m.now).legs i).leaves) (first_is c.args.legs.now) ∙ sym (ap (λ (g : Leg). g.leaves) c.leg.ensures.means) in
    refuses _ _ _ _ _ _ c.at-in_default-next_number.ensures refl refl (books_range _ _ _ c.requires.asks)
    (λ can. grind (arith, nat_tests, leaves, c.clock.ensures, c.if-not-are_there.ensures, c.if-not-connect.ensures, c.if-not-are_apart.ensures, c.in-Some.ensures.value, c.in_default-next_number.ensures, c.booking_count.ensures, ap (λ (l : Limits). l.bookings) c.limits.ensures))

pub push_booking-requires : goal.push_booking-requires
push_booking-requires c = record {
  space = omega (arith, c.in-Some-next_number.ensures.1, c.booking_count.ensures, ap (λ (l : Limits). l.bookings) c.limits.ensures);
  fine = subst (FineBooking (length (house c.args.m.now).legs)) (sym c.new.ensures)
      (new_booking_fine (house c.args.m.now).legs c.args.seats.class c.args.seats.count c.args.legs.now (books_range _ _ _ c.requires.asks) (sym c.if-not-are_there.ensures) (sym c.if-not-are_apart.ensures));
}

pub serve_newest-requires : goal.serve_newest-requires
serve_newest-requires c =
    let h = house c.args.m.now in
    let new = asked c.args.seats.class c.args.seats.count c.args.legs.now in
    let pushed : house c.push_booking.new.self ≡ plus_booking h new = c.push_booking.ensures.house ∙ ap (plus_booking h) (ap booking_means c.new.ensures ∙ booking_of_means _ _ c.args.legs.now) in
    record { newest = subst Newcomer (sym pushed) (newcomer h new c.requires.idle refl) }

pub returns : goal.returns
unfolding turned_by
returns c =
    let leaves-at : (leg (house c.args.m.now).legs (first_leg c.args.legs.now)).leaves ≡ c.leg.result.leaves = ap (λ i. (leg (house c.args.m.now).legs i).leaves) (first_is c.args.legs.now) ∙ sym (ap (λ (g : Leg). g.leaves) c.leg.ensures.means) in
    let h = house c.args.m.now in
    let seats = c.args.seats in
    let is = c.args.legs.now in
    let new = asked seats.class seats.count is in
    let pushed : house c.push_booking.new.self ≡ plus_booking h new = c.push_booking.ensures.house ∙ ap (plus_booking h) (ap booking_means c.new.ensures ∙ booking_of_means _ _ is) in
    let x = house c.serve_newest.new.memory in
    let u = c.clock-2.result + c.limits-2.result.hold in
    let until : u ≡ h.now + h.hold_for = λ d. c.clock-2.ensures d + (c.limits-2.ensures d).hold in
    let served = c.serve_newest.ensures.house ∙ ap (λ v. all_served v u) pushed in
    record {
      meant = takes _ _ _ _ _ (books_range _ _ _ c.requires.asks)
          (λ can. grind (arith, nat_tests, leaves-at, c.clock.ensures, c.if-not-are_there.ensures, c.if-not-connect.ensures, c.if-not-are_apart.ensures, c.in-Some.ensures.value, c.in-Some-next_number.ensures.1, c.booking_count.ensures, ap (λ (l : Limits). l.bookings) c.limits.ensures))
          (says h seats.class seats.count is x u until served _ _ (omega (arith, c.in-Some-next_number.ensures.0, c.booking_count.ensures)) (ap (λ (v : House). (the_booking x (last v)).stands) (sym pushed) ∙ c.serve_newest.ensures.stands ∙ as_number _ _ c.from-stands.ensures))
          (leaves h seats.class seats.count is x u until served);
      lent = lent_both c.args.m.now c.push_booking.new.self c.serve_newest.new.memory c.push_booking.ensures.lent c.serve_newest.ensures.lent;
    }
