-- The page of a call that is taken has kind 5 and counts at most 504 bytes.
use Rattle.std.proofs.Common.{sym, ◌∙◌, arith}
use Rattle.journal_load.proofs.Says.{no_call}
use Rattle.journal_load.proofs.call_in.Goals as goal

pub returns-then-word-from : goal.returns-then-word-from
returns-then-word-from c = λ x f e. c.if-word-from.true (c.word.ensures ∙ (no_call c.args.page.now x f e).0 ∙ sym c.from.ensures)

pub returns-then-count-gt-MOST_OF_CALL : goal.returns-then-count-gt-MOST_OF_CALL
returns-then-count-gt-MOST_OF_CALL c = λ x f e. omega (arith, c.word-count.ensures, (no_call c.args.page.now x f e).1)
