use Rattle.std.proofs.Common.{◌≡◌, ℕ, ◌<◌, ◌≤◌, ◌%◌, nat_eq, get_or}
use Rattle.meaning.specs.Lines.{pick}
use Rattle.power_others.proofs.mark_written.Given as goal

abbrev pub invariant-loop-i : goal.invariant-loop-i
invariant-loop-i l = record {
  marked : (j : ℕ) → j < l.i → get_or l.pages j 0 ≡ pick (nat_eq (j % 513) 0) 1 (get_or l.initial.pages j 0);
  left : (j : ℕ) → l.i ≤ j → get_or l.pages j 0 ≡ get_or l.initial.pages j 0;
}
