-- No such booking, one that isn't held, or paid.
use Rattle.std.proofs.Common.{◌≡◌, ℕ, ◌-◌, ◌*◌, ◌<◌, length, take, refl, ap, ◌∙◌, arith}
use Rattle.std.proofs.lemmas.Bool.Decides.{nat_tests}
use Rattle.std.proofs.lemmas.List.{length-take-le, get_or-take}
use Rattle.meaning.specs.Lines.{cost}
use Rattle.meaning.specs.House.{Booking, House}
use Rattle.meaning.specs.Calls.{good_fields, turned_by, place, the_booking}
use Rattle.store.specs.Whole.{house}
use Rattle.checks.proofs.Verdicts.{refuses}
use Rattle.changes.proofs.Paid.{cents, paid}
use Rattle.changes.proofs.pay.Goals as goal

pub returns-then-k-booking_count-clause-meant : goal.returns-then-k-booking_count-clause-meant
unfolding good_fields turned_by place
returns-then-k-booking_count-clause-meant c = refuses _ _ _ _ _ _ c.at.ensures refl refl refl (λ can. grind (arith, nat_tests, c.booking_count.ensures))

pub returns-then-b-ne-HELD-clause-meant : goal.returns-then-b-ne-HELD-clause-meant
unfolding good_fields turned_by place
returns-then-b-ne-HELD-clause-meant c =
    let stands : c.booking-b.result.stands ≡ (the_booking (house c.args.m.now) c.args.booking).stands = ap (λ (b : Booking). b.stands) c.booking-b.ensures.means in
    refuses _ _ _ _ _ _ c.at-then-b-ne-HELD.ensures refl refl refl (λ can. grind (arith, nat_tests, c.booking_count.ensures, stands))

pub price-requires : goal.price-requires
price-requires c =
    let n : ℕ = c.booking-b.result.count - 0 in
    let e : n ≡ c.booking-b.result.count = omega arith in
    let l : length (take n c.booking-b.result.legs) ≡ n = length-take-le n c.booking-b.result.legs (omega (arith, c.booking-b.ensures.fine.few, c.booking-b.ensures.whole)) in
    record {
      few = omega (arith, c.booking-b.ensures.fine.few);
      there = λ x h. let q : x < n = omega arith in omega (arith, get_or-take n c.booking-b.result.legs x 0 q, c.booking-b.ensures.fine.there x (omega arith));
    }

pub returns : goal.returns
returns c =
    let h : House = house c.args.m.now in
    let means = c.booking-b.ensures.means in
    let stands : c.booking-b.result.stands ≡ (the_booking h c.args.booking).stands = ap (λ (b : Booking). b.stands) means in
    let legs : take (c.booking-b.result.count - 0) c.booking-b.result.legs ≡ take c.booking-b.result.count c.booking-b.result.legs = ap (λ n. take n c.booking-b.result.legs) (omega arith) in
    let seats : c.from.result ≡ c.booking-b.result.seats = omega (arith, c.from.ensures) in
    let seat = c.unwrap_or-seat.ensures ∙ cents _ ∙ ap (λ n. n - 1) (c.price.ensures.value ∙ ap (cost h.fares h.legs c.booking-b.result.class) legs) in
    record {
      meant = paid c.args.m.now.limits h c.args.booking (omega (arith, c.booking_count.ensures)) _ (house c.settle.new.self) (omega (arith, c.if-b-ne-HELD.false))
          ((λ d. seats d * seat d) ∙ ap (λ (b : Booking). b.seats * (cost h.fares h.legs b.class b.legs - 1)) means) c.settle.ensures.house;
      lent = c.settle.ensures.lent;
    }
