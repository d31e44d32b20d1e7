-- The numbers read so far are those of the page.
use Rattle.std.proofs.Common.{◌≡◌, take, drop}
use Rattle.wire.specs.Bytes.{numbers_in}
use Rattle.journal_words.proofs.words_at.Given as goal

abbrev pub invariant-loop-i : goal.invariant-loop-i
invariant-loop-i l = take l.i l.out ≡ take l.i (drop l.at (numbers_in l.page))
