-- Limits out of range, no such leg, another number of limits, or the limits changed and whoever waits served.
use Rattle.std.proofs.Common.{◌≡◌, length, refl, ap, ◌∙◌, arith}
use Rattle.std.proofs.lemmas.Bool.Decides.{nat_tests}
use Rattle.meaning.specs.Calls.{good_fields, turned_by, place}
use Rattle.store.specs.Whole.{house, set_limits}
use Rattle.store.proofs.Lents.{lent_both}
use Rattle.wire.specs.Bytes.{numbers_in}
use Rattle.checks.proofs.Verdicts.{out_of_range, refuses}
use Rattle.changes.proofs.Limited.{limited}
use Rattle.changes.proofs.change_limits.Goals as goal

pub returns-in_default-clause-meant : goal.returns-in_default-clause-meant
unfolding good_fields place
returns-in_default-clause-meant c = out_of_range _ _ _ _ c.at.ensures refl c.in_default.ensures

pub returns-then-i-leg_count-clause-meant : goal.returns-then-i-leg_count-clause-meant
unfolding good_fields turned_by place
returns-then-i-leg_count-clause-meant c = refuses _ _ _ _ _ _ c.at-then-i-leg_count.ensures refl refl c.in-Some.ensures.good (λ can. grind (arith, nat_tests, c.leg_count.ensures))

pub returns-then-leg-len-clause-meant : goal.returns-then-leg-len-clause-meant
unfolding good_fields turned_by place
returns-then-leg-len-clause-meant c =
    let n : c.len.result ≡ length (numbers_in c.args.part.now) = c.len.ensures.value ∙ ap length c.in-Some.ensures.is in
    refuses _ _ _ _ _ _ c.at-then-leg-len.ensures refl refl c.in-Some.ensures.good (λ can. grind (arith, nat_tests, n, c.leg.ensures.classes))

pub returns : goal.returns
returns c =
    let h = house c.args.m.now in
    let is = c.in-Some.ensures.is in
    let n : c.len.result ≡ length (numbers_in c.args.part.now) = c.len.ensures.value ∙ ap length is in
    record {
      meant = limited c.args.m.now.limits h c.args.leg (numbers_in c.args.part.now) c.in-Some.ensures.good _ (house c.set_limits.new.self) (house c.serve_now.new.m) (omega (arith, c.leg_count.ensures)) (omega (arith, n, c.leg.ensures.classes))
          c.from.ensures (c.set_limits.ensures.house ∙ ap (set_limits h c.args.leg) (c.as_slice.ensures.value ∙ is)) c.serve_now.ensures.house;
      lent = lent_both c.args.m.now c.set_limits.new.self c.serve_now.new.m c.set_limits.ensures.lent c.serve_now.ensures.lent;
    }
