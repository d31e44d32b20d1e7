-- Out of range, one that has left, one too many, or opened.
use Rattle.std.proofs.Common.{sym, refl, ap, ◌∙◌, subst, arith}
use Rattle.std.proofs.lemmas.Bool.{and_from, and_left, and_right}
use Rattle.std.proofs.lemmas.Bool.Decides.{nat_tests}
use Rattle.meaning.specs.Calls.{good_limits, number, turned_by, place, changed, told}
use Rattle.limits.specs.declared.Limits.{Limits}
use Rattle.records.specs.Words.{leg_of}
use Rattle.records.specs.Means.{leg_means}
use Rattle.records.proofs.News.{leg_of_means}
use Rattle.store.specs.Whole.{house, plus_leg}
use Rattle.store.specs.Range.{FineLeg}
use Rattle.store.proofs.Ranges.{new_leg_fine}
use Rattle.wire.specs.Bytes.{numbers_in}
use Rattle.checks.specs.Ranges.{schedule_fits}
use Rattle.checks.proofs.Verdicts.{out_of_range, refuses, takes}
use Rattle.calls.proofs.Opened.{opens_range}
use Rattle.calls.proofs.open_leg.Goals as goal

pub returns-then-not-is_in_range-clause-meant : goal.returns-then-not-is_in_range-clause-meant
unfolding place
returns-then-not-is_in_range-clause-meant c = out_of_range _ _ _ _ c.at.ensures refl (opens_range _ _ _ _ _ ∙ and_left _ (good_limits (numbers_in c.args.part.now)) (sym c.if-not-is_in_range.ensures))

pub returns-in_default-clause-meant : goal.returns-in_default-clause-meant
unfolding place
returns-in_default-clause-meant c = out_of_range _ _ _ _ c.at-in_default.ensures refl (opens_range _ _ _ _ _ ∙ and_right (schedule_fits c.args.schedule.now) _ c.in_default.ensures)

pub returns-then-schedule-clock-clause-meant : goal.returns-then-schedule-clock-clause-meant
unfolding turned_by place
returns-then-schedule-clock-clause-meant c = refuses _ _ _ _ _ _ c.at-then-schedule-clock.ensures refl refl (opens_range _ _ _ _ _ ∙ and_from _ _ (sym c.if-not-is_in_range.ensures) c.in-Some.ensures.good) (λ can. grind (arith, nat_tests, c.clock.ensures))

pub returns-in_default-next_number-clause-meant : goal.returns-in_default-next_number-clause-meant
unfolding turned_by place
returns-in_default-next_number-clause-meant c = refuses _ _ _ _ _ _ c.at-in_default-next_number.ensures refl refl (opens_range _ _ _ _ _ ∙ and_from _ _ (sym c.if-not-is_in_range.ensures) c.in-Some.ensures.good)
    (λ can. grind (arith, nat_tests, c.clock.ensures, c.in_default-next_number.ensures, c.leg_count.ensures, ap (λ (l : Limits). l.legs) c.limits.ensures))

pub push_leg-requires : goal.push_leg-requires
push_leg-requires c =
    let s = c.args.schedule.now in
    let good = opens_range _ _ _ _ _ ∙ and_from _ _ (sym c.if-not-is_in_range.ensures) c.in-Some.ensures.good in
    let new = c.with.ensures ∙ ap (leg_of s.from s.to s.leaves s.arrives) (c.as_slice.ensures.value ∙ c.in-Some.ensures.is) in
    record {
      space = omega (arith, c.in-Some-next_number.ensures.1, c.leg_count.ensures, ap (λ (l : Limits). l.legs) c.limits.ensures);
      fine = subst FineLeg (sym new) (new_leg_fine s.from s.to s.leaves s.arrives _ good);
    }

pub returns-clause-meant : goal.returns-clause-meant
unfolding turned_by told changed
returns-clause-meant c =
    let s = c.args.schedule.now in
    let new = c.with.ensures ∙ ap (leg_of s.from s.to s.leaves s.arrives) (c.as_slice.ensures.value ∙ c.in-Some.ensures.is) in
    takes _ _ _ _ _ (opens_range _ _ _ _ _ ∙ and_from _ _ (sym c.if-not-is_in_range.ensures) c.in-Some.ensures.good)
    (λ can. grind (arith, nat_tests, c.clock.ensures, c.in-Some-next_number.ensures.1, c.leg_count.ensures, ap (λ (l : Limits). l.legs) c.limits.ensures))
    (ap number (omega (arith, c.in-Some-next_number.ensures.0, c.leg_count.ensures)))
    (c.push_leg.ensures.house ∙ ap (plus_leg (house c.args.m.now)) (ap leg_means new ∙ leg_of_means s.from s.to s.leaves s.arrives _))
