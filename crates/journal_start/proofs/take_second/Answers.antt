-- The second slot's commit record, and a chip that was never used.
use Rattle.std.proofs.Common.{◌∙◌, subst}
use Rattle.std.proofs.lemmas.Result.{err_from_is_err_and}
use Rattle.limits.specs.Opening.{limits_mean}
use Rattle.limits.specs.declared.Limits.{Limits}
use Rattle.flash.specs.Pages.{page_told}
use Rattle.store.proofs.Lents.{lent_none}
use Rattle.journal_start.specs.Starting.{NoCommit}
use Rattle.journal_start.proofs.Steps.{never_at}
use Rattle.every_call.specs.Stage.{stage_calls}
use Rattle.journal_start.proofs.take_second.Goals as goal

pub returns-in_err-second : goal.returns-in_err-second
returns-in_err-second c = record {
  next = rw (err_from_is_err_and c.from_residual.result c.from_residual.ensures.1).1 (subst (λ (l : Limits). NoCommit (limits_mean stage_calls l) (page_told c.args.page)) (c.new-layout.ensures ∙ c.limits.ensures) (c.in_err-second.ensures stage_calls));
  sound = c.requires.sound;
  lent = lent_none c.args.m.now;
}

pub returns-in_default : goal.returns-in_default
returns-in_default c = record {
  next =
      never_at c.unused.result c.unused.ensures c.args.m.now c.new-layout.result.limits c.args.first c.in_ok-second.second (page_told c.args.page) (c.new-layout.ensures ∙ c.limits.ensures) c.requires.fits.holds c.in_ok-second.ensures.0
      c.in_default.ensures.chosen;
  sound = c.requires.sound;
  lent = lent_none c.args.m.now;
}
