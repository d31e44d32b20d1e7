-- Each case is written as its number and its values.
use Rattle.std.proofs.Common.{[], ◌∷◌, refl, arith}
use Rattle.meaning.specs.Calls.{refused, number, two, stands_so}
use Rattle.wire_answers.specs.Answers.{answer_bytes, listed}
use Rattle.wire_answers.proofs.Lengths.{written_so, written_list}
use Rattle.wire_answers.proofs.encode_answer.Goals as goal

pub returns-then-list-gt-MOST_CLASSES : goal.returns-then-list-gt-MOST_CLASSES
unfolding listed
returns-then-list-gt-MOST_CLASSES c = rw c.in-Sold.is (omega arith, refl)

pub returns-in-Refused : goal.returns-in-Refused
unfolding answer_bytes listed
returns-in-Refused c = rw c.in-Refused.is
    (written_so (refused c.in-Refused.refusal c.in-Refused.place) 0 (c.in-Refused.refusal ∷ (c.in-Refused.place ∷ [])) _ _ _ refl refl (omega (arith, c.put_row.ensures.end)) c.put_row.ensures.after)

pub returns-in-Number : goal.returns-in-Number
unfolding answer_bytes listed
returns-in-Number c = rw c.in-Number.is
    (written_so (number c.in-Number.value) 1 (c.in-Number.value ∷ []) _ _ _ refl refl (omega (arith, c.put_row-in-Number.ensures.end)) c.put_row-in-Number.ensures.after)

pub returns-in-Booked : goal.returns-in-Booked
unfolding answer_bytes listed
returns-in-Booked c = rw c.in-Booked.is
    (written_so (two c.in-Booked.booking c.in-Booked.stands) 2 (c.in-Booked.booking ∷ (c.in-Booked.stands ∷ [])) _ _ _ refl refl (omega (arith, c.put_row-in-Booked.ensures.end)) c.put_row-in-Booked.ensures.after)

pub returns-in-Stands : goal.returns-in-Stands
unfolding answer_bytes listed
returns-in-Stands c = rw c.in-Stands.is
    (written_so (stands_so c.in-Stands.stands c.in-Stands.until c.in-Stands.paid) 3 (c.in-Stands.stands ∷ (c.in-Stands.until ∷ (c.in-Stands.paid ∷ []))) _ _ _ refl refl (omega (arith, c.put_row-in-Stands.ensures.end)) c.put_row-in-Stands.ensures.after)

pub returns-else-list-gt-MOST_CLASSES : goal.returns-else-list-gt-MOST_CLASSES
returns-else-list-gt-MOST_CLASSES c = rw c.in-Sold.is (written_list c.args.list.now c.args.out.now _ _ (omega arith) (omega arith) (omega (arith, c.put_row-in-Sold.ensures.end)) c.put_row-in-Sold.ensures.after)
