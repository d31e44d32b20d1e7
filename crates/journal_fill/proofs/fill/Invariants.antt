-- The records put so far stand one behind the other.
use Rattle.std.proofs.Common.{take, drop}
use Rattle.store.specs.Whole.{house}
use Rattle.journal_fill.proofs.Rows.{Put}
use Rattle.journal_fill.proofs.fill.Given as goal

abbrev pub invariant-loop-i : goal.invariant-loop-i
invariant-loop-i g l =
    let s = g.R.Record.sort in
    Put s.row s.width s.kind (take s.to_page (drop l.first (s.its (house l.m)))) l.i l.page
