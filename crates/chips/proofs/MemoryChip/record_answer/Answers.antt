-- An answer is recorded as it was given, where power holds in the act.
use Rattle.std.proofs.Common.{refl}
use Rattle.std.proofs.lemmas.Result.{err_from_is_err_and}
use Rattle.chips.proofs.Acts.{not_given, told_more}
use Rattle.chips.proofs.MemoryChip.record_answer.Goals as goal

pub returns-in_err-spend-clause-acted : goal.returns-in_err-spend-clause-acted
returns-in_err-spend-clause-acted c = let fails = err_from_is_err_and c.from_residual.result c.from_residual.ensures.1 in rw fails.1 (not_given _ _ _ _ refl)

pub returns-in_err-said-clause-acted : goal.returns-in_err-said-clause-acted
returns-in_err-said-clause-acted c = let fails = err_from_is_err_and c.from_residual-in_err-said.result c.from_residual-in_err-said.ensures.1 in rw fails.1 (not_given _ _ _ _ refl)

pub returns-in_err-map_err-clause-acted : goal.returns-in_err-map_err-clause-acted
returns-in_err-map_err-clause-acted c =
    let fails = err_from_is_err_and c.from_residual-in_err-map_err.result c.from_residual-in_err-map_err.ensures.1 in
    rw fails.1 (told_more _ _ _ c.in_ok-said.said _ _ _ c.in_err-map_err.ensures.variant c.push.ensures.items (rw c.in_ok-said.ensures.ok_part at c.new.ensures))

pub returns-clause-acted : goal.returns-clause-acted
returns-clause-acted c = told_more _ _ _ c.in_ok-said.said _ _ _ c.in_ok-map_err.ensures.variant c.push.ensures.items (rw c.in_ok-said.ensures.ok_part at c.new.ensures)
