-- Act by act, until nothing is owed or power fails.
use Rattle.std.proofs.Common.{◌≡◌, ℕ, sym, refl, ◌∙◌, arith}
use Rattle.std.proofs.lemmas.Result.{err_from_is_err_and}
use Rattle.driver.proofs.Runs.{none_done, one_more, stops, all_of, rest_owes}
use Rattle.driver.proofs.finish.Goals as goal

pub loop-device-init : goal.loop-device-init
loop-device-init g c = (none_done _ _ _, record { ready = c.requires.ready; journal = refl }, refl)

pub returns-in_err-act : goal.returns-in_err-act
returns-in_err-act g c =
    let fails = err_from_is_err_and c.from_residual.result c.from_residual.ensures.1 in
    rw fails.1 (record {
      done = stops _ _ _ _ _ _ _ _ _ c.loop-device.invariant.0 c.in_err-act.ensures.done;
      kept = record { ready = c.act.ensures.kept.ready; journal = c.act.ensures.kept.journal ∙ c.loop-device.invariant.1.journal };
      rests = λ e. let z : ◌≡◌ {A = ℕ} 0 1 = cc in absurd (omega arith);
      size = c.act.ensures.size ∙ c.loop-device.invariant.2;
    })

pub loop-device-preserved : goal.loop-device-preserved
loop-device-preserved g c = (
  one_more _ _ _ _ _ _ _ _ _ c.loop-device.invariant.0 c.in_ok-act.ensures.done,
  record { ready = c.act.ensures.kept.ready; journal = c.act.ensures.kept.journal ∙ c.loop-device.invariant.1.journal },
  c.act.ensures.size ∙ c.loop-device.invariant.2,
)

pub returns : goal.returns
returns g c =
    let rest = sym c.is_resting.ensures ∙ c.loop-device-test.false in
    record {
      done = all_of _ _ _ _ _ _ c.loop-device.invariant.0 (rest_owes c.loop-device.session c.args.m.now rest);
      kept = c.loop-device.invariant.1;
      rests = λ e. rest;
      size = c.loop-device.invariant.2;
    }
