-- What a cancellation is answered, and what it leaves.
use Rattle.std.proofs.Common.{◌≡◌, ℕ, ◌<◌, Bool, length, refl, ap, ◌∙◌, ap₂}
use Rattle.std.proofs.lemmas.Bool.{lt-ltb}
use Rattle.meaning.specs.Lines.{pick}
use Rattle.meaning.specs.House.{House, stand}
use Rattle.meaning.specs.Calls.{cancels, number, good_fields, turned_by, changed, told, the_booking}
use Rattle.limits.specs.declared.Limits.{Limits}
use Rattle.store.specs.Whole.{set_booking}
use Rattle.checks.specs.Meant.{Meant}
use Rattle.checks.proofs.Verdicts.{takes}
use Rattle.changes.specs.Steps.{then_served}

module _ (l : Limits) (h : House) (k : ℕ) where
  -- the checks of a cancellation in their order
  abbrev order : Bool → Bool → ℕ
  order a b = pick a (pick b 0 8) 7

  module _ (q : k < length h.bookings) where
    pub cancelled : (n : ℕ) (g x : House) → (the_booking h k).stands < 3 → n ≡ k → g ≡ set_booking h k (stand (the_booking h k) 3 0) → x ≡ then_served g → Meant l h (cancels k) (number n) x
    unfolding good_fields turned_by told changed
    cancelled n g x s en eg ex =
        takes l h (cancels k) (number n) x refl (λ can. ap₂ order (lt-ltb k (length h.bookings) q) (lt-ltb (the_booking h k).stands 3 s)) (ap number en) (ex ∙ ap then_served eg)
