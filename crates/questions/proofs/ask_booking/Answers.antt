use Rattle.std.proofs.Common.{refl, ap, ◌∙◌, arith}
use Rattle.std.proofs.lemmas.Bool.Decides.{nat_tests}
use Rattle.meaning.specs.House.{Booking}
use Rattle.meaning.specs.Calls.{stands_so, good_fields, turned_by, place, changed, told}
use Rattle.checks.proofs.Verdicts.{refuses, takes}
use Rattle.questions.proofs.ask_booking.Goals as goal

pub returns-then-k-booking_count : goal.returns-then-k-booking_count
unfolding good_fields turned_by place
returns-then-k-booking_count c = refuses _ _ _ _ _ _ c.at.ensures refl refl refl (λ can. grind (arith, nat_tests, c.booking_count.ensures))

pub returns : goal.returns
unfolding good_fields turned_by changed told
returns c =
    let e = c.booking-b.ensures.means in
    takes _ _ _ _ _ refl (λ can. grind (arith, nat_tests, c.booking_count.ensures))
    (λ d. stands_so ((c.from.ensures ∙ ap (λ (b : Booking). b.stands) e) d) ((c.from-2.ensures ∙ ap (λ (b : Booking). b.until) e) d) (ap (λ (b : Booking). b.paid) e d)) refl
