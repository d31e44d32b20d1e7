use Rattle.std.proofs.Common.{◌≡◌, take}
use Rattle.meaning.specs.Calls.{ran}
use Rattle.meaning.specs.Statements.{Reached}
use Rattle.store.specs.Whole.{Lent, house}
use Rattle.calls.specs.Stage.{calls_of, stage_at}
use Rattle.calls.proofs.run_rows.Given as goal

-- the calls of the rows so far are done
abbrev pub invariant-loop-row : goal.invariant-loop-row
invariant-loop-row g l = record {
  ran : house l.m ≡ ran (stage_at g.S.Stage.can l.initial.m) (house l.initial.m) (take l.row-index (calls_of l.rows));
  reached : Reached (stage_at g.S.Stage.can l.m) (house l.m);
  lent : Lent l.initial.m l.m;
}
