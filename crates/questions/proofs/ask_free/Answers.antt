use Rattle.std.proofs.Common.{refl, ap, ◌∙◌, arith}
use Rattle.std.proofs.lemmas.Bool.Decides.{nat_tests}
use Rattle.meaning.specs.Calls.{number, good_fields, turned_by, place, changed, told}
use Rattle.checks.proofs.Verdicts.{out_of_range, refuses, takes}
use Rattle.questions.proofs.ask_free.Goals as goal

pub returns-then-class-ge-CLASSES : goal.returns-then-class-ge-CLASSES
unfolding good_fields place
returns-then-class-ge-CLASSES c = out_of_range _ _ _ _ c.at.ensures refl (grind (arith, nat_tests))

pub returns-then-i-leg_count : goal.returns-then-i-leg_count
unfolding good_fields turned_by place
returns-then-i-leg_count c = refuses _ _ _ _ _ _ c.at-then-i-leg_count.ensures refl refl (grind (arith, nat_tests)) (λ can. grind (arith, nat_tests, c.leg_count.ensures))

pub returns-then-class-g : goal.returns-then-class-g
unfolding good_fields turned_by place
returns-then-class-g c = refuses _ _ _ _ _ _ c.at-then-class-g.ensures refl refl (grind (arith, nat_tests)) (λ can. grind (arith, nat_tests, c.leg-g.ensures.classes))

pub returns : goal.returns
unfolding good_fields turned_by changed told
returns c =
    takes _ _ _ _ _ (grind (arith, nat_tests)) (λ can. grind (arith, nat_tests, c.leg_count.ensures, c.leg-g.ensures.classes))
    (ap number (c.from.ensures ∙ c.free_seats.ensures)) refl
