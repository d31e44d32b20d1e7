-- Other bytes than those of a commit record are refused.
use Rattle.std.proofs.Common.{◌∙◌, subst}
use Rattle.std.proofs.lemmas.Result.{err_from_is_err_and}
use Rattle.limits.specs.Opening.{limits_mean}
use Rattle.limits.specs.declared.Limits.{Limits}
use Rattle.flash.specs.Pages.{page_told}
use Rattle.journal_start.specs.Starting.{NoCommit}
use Rattle.every_call.specs.Stage.{stage_calls}
use Rattle.journal_start.proofs.take_first.Goals as goal

pub returns-in_err-first : goal.returns-in_err-first
returns-in_err-first c = rw (err_from_is_err_and c.from_residual.result c.from_residual.ensures.1).1 (subst (λ (l : Limits). NoCommit (limits_mean stage_calls l) (page_told c.args.page)) (c.new-layout.ensures ∙ c.limits.ensures) (c.in_err-first.ensures stage_calls))
