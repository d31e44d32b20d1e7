-- Out of range, or booked on the journey that was read.
use Rattle.std.proofs.Common.{◌≤◌, [], length, sym, refl, ◌∙◌, subst}
use Rattle.std.proofs.lemmas.Bool.{and_left, and_right, and_parts, ltb-true, leb-true}
use Rattle.meaning.specs.Calls.{books, good_fields, place}
use Rattle.protocol.specs.Forms.{answer_of}
use Rattle.store.specs.Whole.{house}
use Rattle.checks.specs.Meant.{Meant}
use Rattle.checks.specs.Ranges.{seats_fit}
use Rattle.checks.proofs.Verdicts.{out_of_range}
use Rattle.calls.proofs.book.Goals as goal

pub returns-then-not-are_in_range-clause-meant : goal.returns-then-not-are_in_range-clause-meant
unfolding good_fields place
returns-then-not-are_in_range-clause-meant c = out_of_range _ _ _ _ c.at.ensures refl (and_left (seats_fit c.args.seats.class c.args.seats.count) _ (sym c.if-not-are_in_range.ensures))

pub returns-in_default-clause-meant : goal.returns-in_default-clause-meant
unfolding good_fields place
returns-in_default-clause-meant c = out_of_range _ _ _ _ c.at-in_default.ensures refl (and_right (seats_fit c.args.seats.class c.args.seats.count) _ c.in_default.ensures)

pub book_on-requires : goal.book_on-requires
book_on-requires c =
    let e = c.as_slice.ensures.value ∙ c.in-Some.ensures.is in
    let p = and_parts _ _ (sym c.if-not-are_in_range.ensures) in
    let q = and_parts _ _ p.1 in
    record {
      idle = c.requires.idle;
      asks = record { class = ltb-true _ _ p.0; least = leb-true _ _ q.0; seats = leb-true _ _ q.1; some = subst (λ v. 1 ≤ length v) (sym e) c.in-Some.ensures.some; few = subst (λ v. length v ≤ 8) (sym e) c.in-Some.ensures.few };
    }

pub returns-clause-meant : goal.returns-clause-meant
returns-clause-meant c = subst (λ is. Meant c.args.m.now.limits (house c.args.m.now) (books c.args.seats.class c.args.seats.count is) (answer_of c.book_on.result []) (house c.book_on.new.m)) (c.as_slice.ensures.value ∙ c.in-Some.ensures.is) c.book_on.ensures.meant
