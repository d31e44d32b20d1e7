-- Whoever waits is served until now and the time that a hold lasts.
use Rattle.std.proofs.Common.{◌≡◌, ℕ, ◌+◌, ap, ◌∙◌}
use Rattle.meaning.specs.House.{House}
use Rattle.seating.specs.Serving.{all_served}
use Rattle.changes.specs.Steps.{then_served}

pub served_now : (h x : House) (u : ℕ) → u ≡ h.now + h.hold_for → x ≡ all_served h u → x ≡ then_served h
served_now h x u e s = s ∙ ap (all_served h) e
