-- A row is a call, which is done, or none, which is refused where it ceases to be one.
use Rattle.std.proofs.Common.{[], take, subst}
use Rattle.calls.specs.Stage.{Done}
use Rattle.calls.proofs.Performed.{not_read}
use Rattle.calls.proofs.answer_row.Goals as goal

pub returns-in-Err-clause-done : goal.returns-in-Err-clause-done
returns-in-Err-clause-done g c = subst (λ x. Done g.S.Stage.can c.args.m.now c.args.m.now x c.at.result []) c.in-Err.ensures.means (not_read _ _ _ _ c.at.ensures c.requires.idle)

pub returns-clause-done : goal.returns-clause-done
returns-clause-done g c = subst (λ x. Done g.S.Stage.can c.args.m.now c.perform.new.m x c.perform.result.answer (take c.perform.result.listed c.perform.new.sold)) c.in-Ok.ensures.means c.perform.ensures.done
