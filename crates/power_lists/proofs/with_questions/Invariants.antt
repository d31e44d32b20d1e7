use Rattle.std.proofs.Common.{◌≡◌, ◌++◌, string_bytes}
use Rattle.power_lists.specs.Lists.{question_lines}
use Rattle.power_lists.proofs.with_questions.Given as goal

abbrev pub invariant-loop-k : goal.invariant-loop-k
invariant-loop-k l = string_bytes l.text ≡ l.list ++ question_lines l.k-counter
