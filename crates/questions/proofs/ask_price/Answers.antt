use Rattle.std.proofs.Common.{◌≤◌, ltb, [], length, refl, sym, ◌∙◌, subst, arith}
use Rattle.std.proofs.lemmas.Bool.{and_right}
use Rattle.std.proofs.lemmas.Bool.Decides.{nat_tests}
use Rattle.meaning.specs.Calls.{price_of, good_fields, place}
use Rattle.protocol.specs.Forms.{answer_of}
use Rattle.store.specs.Whole.{house}
use Rattle.checks.specs.Meant.{Meant}
use Rattle.checks.proofs.Verdicts.{out_of_range}
use Rattle.questions.proofs.ask_price.Goals as goal

pub returns-then-class-ge-CLASSES : goal.returns-then-class-ge-CLASSES
unfolding good_fields place
returns-then-class-ge-CLASSES c = out_of_range _ _ _ _ c.at.ensures refl (grind (arith, nat_tests))

pub returns-in_default : goal.returns-in_default
unfolding good_fields place
returns-in_default c = out_of_range _ _ _ _ c.at-in_default.ensures refl (and_right (ltb c.args.class 26) _ c.in_default.ensures)

pub price_on-requires : goal.price_on-requires
price_on-requires c =
    let j = c.in-Some.ensures in
    let e = c.as_slice.ensures.value ∙ j.is in
    record { class = omega (arith, c.if-class-ge-CLASSES.false); some = subst (λ v. 1 ≤ length v) (sym e) j.some; few = subst (λ v. length v ≤ 8) (sym e) j.few }

pub returns : goal.returns
returns c = subst (λ is. Meant c.args.m.now.limits (house c.args.m.now) (price_of c.args.class is) (answer_of c.price_on.result []) (house c.args.m.now)) (c.as_slice.ensures.value ∙ c.in-Some.ensures.is) c.price_on.ensures
