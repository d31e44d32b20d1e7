-- So many records of the page are in the house.
use Rattle.std.proofs.Common.{◌≡◌}
use Rattle.store.specs.Whole.{Lent, Sound, house}
use Rattle.journal_rows.specs.Sorts.{with_first}
use Rattle.journal_load.proofs.load.Given as goal

abbrev pub invariant-loop-k : goal.invariant-loop-k
invariant-loop-k g l = record {
  came : house l.m ≡ with_first g.R.Record.sort l.page (house l.initial.m) l.k;
  sound : Sound l.m;
  lent : Lent l.initial.m l.m;
}
