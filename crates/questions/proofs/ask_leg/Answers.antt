-- Each turn writes the count of one class more.
use Rattle.std.proofs.Common.{◌≡◌, ℕ, ◌∷◌, [], ◌++◌, length, take, refl, sym, ap, ◌∙◌, arith}
use Rattle.std.proofs.lemmas.Bool.Decides.{nat_tests}
use Rattle.std.proofs.lemmas.List.{take_more_set, take_all, take_at, length-take-le}
use Rattle.meaning.specs.Calls.{each_class, sold, good_fields, turned_by, place, changed, told}
use Rattle.store.specs.Whole.{house}
use Rattle.checks.proofs.Verdicts.{refuses, takes}
use Rattle.questions.proofs.Asked.{each_more, each_none}
use Rattle.questions.proofs.ask_leg.Goals as goal

pub returns-then-i-leg_count-clause-meant : goal.returns-then-i-leg_count-clause-meant
unfolding good_fields turned_by place
returns-then-i-leg_count-clause-meant c = refuses _ _ _ _ _ _ c.at.ensures refl refl refl (λ can. grind (arith, nat_tests, c.leg_count.ensures))

pub loop-class-init : goal.loop-class-init
loop-class-init c = sym (each_none (house c.args.m.now).bookings c.args.leg)

pub loop-class-preserved : goal.loop-class-preserved
loop-class-preserved c =
    take_more_set c.loop-class.count-items c.loop-class.class c.from.result (omega arith)
    ∙ (λ d. c.loop-class.invariant d ++ ((c.from.ensures ∙ c.taken.ensures.is) d ∷ []))
    ∙ sym (each_more (house c.args.m.now).bookings c.args.leg c.loop-class.class)

pub returns-clause-meant : goal.returns-clause-meant
unfolding good_fields turned_by changed told
returns-clause-meant c =
    let n : ℕ = c.leg-classes.result.classes in
    let l : length (take n c.args.sold.now) ≡ n = length-take-le n c.args.sold.now (omega (arith, c.told-sold, c.leg-classes.ensures.fine.classes)) in
    let e : c.loop-class.class ≡ n = omega arith in
    let written = take_at c.loop-class.count-items _ n (omega arith) ∙ sym (take_all n c.loop-class.count-items (omega arith)) ∙ ap (λ k. take k c.loop-class.count-items) (sym e) ∙ c.loop-class.invariant
    ∙ ap (each_class (house c.args.m.now).bookings c.args.leg 0) (e ∙ c.leg-classes.ensures.classes) in
    takes _ _ _ _ _ refl (λ can. grind (arith, nat_tests, c.leg_count.ensures)) (ap sold written) refl
