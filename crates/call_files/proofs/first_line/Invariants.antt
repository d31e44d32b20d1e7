use Rattle.std.proofs.Common.{◌≡◌, ℕ, ◌≤◌, length}
use Rattle.call_files.specs.Lines.{first_in}
use Rattle.call_files.proofs.first_line.Given as goal

abbrev pub invariant-loop-line : goal.invariant-loop-line
invariant-loop-line l = (n : ℕ) × (length l.lines.rest.now ≤ n) × (first_in (length l.text) l.text ≡ first_in n l.lines.rest.now)

abbrev pub decreases-loop-line : goal.decreases-loop-line
decreases-loop-line l = length l.lines.rest.now
