use Rattle.std.proofs.Common.{◌≡◌, ℕ, ◌+◌, ◌*◌, ◌≤◌, length}
use Rattle.store.specs.Whole.{house}
use Rattle.pricing.specs.Prices.{coded}
use Rattle.pricing.proofs.Cuts.{to}
use Rattle.pricing.proofs.+cheapest.Given as goal

-- the legs left get fewer
abbrev pub decreases-cheapest : goal.decreases-cheapest
decreases-cheapest l = length l.journey.now

-- the cheapest with a first piece of at most so many legs
abbrev pub invariant-loop-more : goal.invariant-loop-more
invariant-loop-more l =
    ((n : ℕ) → length l.journey ≤ n + 1 → coded l.best ≡ to (house l.m).fares (house l.m).legs l.class n l.journey l.more)
    × (coded l.best ≤ length l.journey * 100000000 + 1)
