-- The number of a standing.
use Rattle.std.proofs.Common.{◌≤◌, arith}
use Rattle.records.specs.declared.Standing.{Standing}
use Rattle.records.specs.declared.Standing.TheVariants.{Waits, Held, Paid, Gone}
use Rattle.records.specs.Standings.{number_of}

-- it is at most 3
pub number_few : (s : Standing) → number_of s ≤ 3
number_few Waits = omega arith
number_few Held = omega arith
number_few Paid = omega arith
number_few Gone = omega arith
