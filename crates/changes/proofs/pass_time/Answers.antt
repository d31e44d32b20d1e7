-- Ticks out of range, a tick too late, or gone by, with what is over gone and whoever waits served.
use Rattle.std.proofs.Common.{◌+◌, refl, sym, arith}
use Rattle.std.proofs.lemmas.Bool.Decides.{nat_tests}
use Rattle.meaning.specs.Calls.{good_fields, turned_by, place}
use Rattle.store.specs.Whole.{house}
use Rattle.store.proofs.Lents.{lent_both}
use Rattle.checks.proofs.Verdicts.{out_of_range, refuses}
use Rattle.changes.proofs.Timed.{gone_by}
use Rattle.changes.proofs.pass_time.Goals as goal

pub returns-then-not-ticks_in_range-clause-meant : goal.returns-then-not-ticks_in_range-clause-meant
unfolding good_fields place
returns-then-not-ticks_in_range-clause-meant c = out_of_range _ _ _ _ c.at.ensures refl (sym c.if-not-ticks_in_range.ensures)

pub returns-then-tick-ge-END-clause-meant : goal.returns-then-tick-ge-END-clause-meant
unfolding good_fields turned_by place
returns-then-tick-ge-END-clause-meant c = refuses _ _ _ _ _ _ c.at-then-tick-ge-END.ensures refl refl (sym c.if-not-ticks_in_range.ensures) (λ can. grind (arith, nat_tests, c.clock.ensures, c.if-tick-ge-END.true))

pub returns : goal.returns
returns c =
    let m = c.args.m.now in
    let a = c.set_clock.new.self in
    let b = c.run_out.new.m in
    let x = c.serve_now.new.m in
    record {
      meant = gone_by m.limits (house m) c.args.count (sym c.if-not-ticks_in_range.ensures) _ (c.clock.result + c.args.count) (house a) (house b) (house x) (omega (arith, c.if-tick-ge-END.false)) (omega (arith, c.clock.ensures))
          c.from.ensures c.set_clock.ensures.house c.run_out.ensures.house c.serve_now.ensures.house;
      lent = lent_both m a x c.set_clock.ensures.lent (lent_both a b x c.run_out.ensures.lent c.serve_now.ensures.lent);
    }
