use Rattle.std.proofs.Common.{◌≡◌}
use Rattle.power_stories.specs.Stories.{behind}
use Rattle.power_stories.proofs.skip_lines.Given as goal

abbrev pub invariant-loop : goal.invariant-loop
invariant-loop l = l.rest ≡ behind l.counter l.text
