-- The checks of a price in their order.
use Rattle.std.proofs.Common.{sym, refl, ap, arith}
use Rattle.std.proofs.lemmas.Bool.Decides.{nat_tests}
use Rattle.meaning.specs.Calls.{number, good_fields, turned_by, place, changed, told}
use Rattle.store.specs.Whole.{house}
use Rattle.checks.proofs.Steps.{there_tells}
use Rattle.checks.proofs.Verdicts.{refuses, takes}
use Rattle.questions.proofs.price_on.Goals as goal

pub returns-then-not-are_there : goal.returns-then-not-are_there
unfolding good_fields turned_by place
returns-then-not-are_there c = refuses _ _ _ _ _ _ c.at.ensures refl refl (grind (arith, nat_tests)) (λ can. grind (arith, c.if-not-are_there.ensures))

pub connect-requires : goal.connect-requires
connect-requires c = record {
  there = there_tells (house c.args.m.now).legs c.args.class c.args.legs.now (sym c.if-not-are_there.ensures);
}

pub returns-then-not-connect : goal.returns-then-not-connect
unfolding good_fields turned_by place
returns-then-not-connect c = refuses _ _ _ _ _ _ c.at-then-not-connect.ensures refl refl (grind (arith, nat_tests)) (λ can. grind (arith, c.if-not-are_there.ensures, c.if-not-connect.ensures))

pub returns-then-not-are_apart : goal.returns-then-not-are_apart
unfolding good_fields turned_by place
returns-then-not-are_apart c = refuses _ _ _ _ _ _ c.at-then-not-are_apart.ensures refl refl (grind (arith, nat_tests)) (λ can. grind (arith, c.if-not-are_there.ensures, c.if-not-connect.ensures, c.if-not-are_apart.ensures))

pub price-requires : goal.price-requires
price-requires c = record {
  few = c.requires.few;
  there = there_tells (house c.args.m.now).legs c.args.class c.args.legs.now (sym c.if-not-are_there.ensures);
}

pub returns-in_default : goal.returns-in_default
unfolding good_fields turned_by place
returns-in_default c = refuses _ _ _ _ _ _ c.at-in_default.ensures refl refl (grind (arith, nat_tests)) (λ can. grind (arith, nat_tests, c.if-not-are_there.ensures, c.if-not-connect.ensures, c.if-not-are_apart.ensures, c.in_default.ensures.value))

pub returns : goal.returns
unfolding good_fields turned_by changed told
returns c =
    takes _ _ _ _ _ (grind (arith, nat_tests)) (λ can. grind (arith, nat_tests, c.if-not-are_there.ensures, c.if-not-connect.ensures, c.if-not-are_apart.ensures, c.in-Some.ensures.value))
    (ap number (omega (arith, c.in-Some.ensures.value))) refl
