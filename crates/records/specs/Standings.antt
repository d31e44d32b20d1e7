-- How a booking stands, and the number that is kept of it. Definitions only: nothing is assumed or proved here.
use Rattle.std.specs.Prelude.{◌≡◌, ℕ, ◌<◌, Result, MatchResult}
use Rattle.records.specs.declared.Standing.{Standing}
use Rattle.records.specs.declared.Standing.TheVariants.{Waits, Held, Paid, Gone}
use Rattle.records.specs.declared.UnknownStanding.{UnknownStanding}

-- the number of a standing, as the meaning has it: it waits, is held, is paid, or is gone
abbrev pub number_of : Standing → ℕ
number_of Waits = 0
number_of Held = 1
number_of Paid = 2
number_of Gone = 3

-- the standing with this number, or a number that no standing has
abbrev pub StandsSo : ℕ → Result Standing UnknownStanding → Type 0
StandsSo n r = MatchResult r (λ s. number_of s ≡ n) (λ e. (e.0 ≡ n) × (3 < n))
