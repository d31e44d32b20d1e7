use Rattle.std.proofs.Common.{◌≡◌, ◌-◌, ◌≤◌, ◌++◌, string_bytes}
use Rattle.power_lists.specs.Lists.{booking_lines}
use Rattle.power_lists.proofs.with_bookings.Given as goal

abbrev pub invariant-loop-k : goal.invariant-loop-k
invariant-loop-k l = (string_bytes l.text ≡ l.list ++ booking_lines l.from (l.k - l.from)) × (l.k - l.from ≤ l.to - l.from)
