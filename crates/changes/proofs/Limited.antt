-- What a change of limits is answered, and what it leaves.
use Rattle.std.proofs.Common.{◌≡◌, ℕ, ◌<◌, Bool, true, List, length, ap, ◌∙◌}
use Rattle.std.proofs.lemmas.Bool.{lt-ltb, eq-eqb, and_from}
use Rattle.meaning.specs.Lines.{pick, leg}
use Rattle.meaning.specs.House.{House}
use Rattle.meaning.specs.Calls.{limits_to, number, good_limits, good_fields, turned_by, changed, told}
use Rattle.limits.specs.declared.Limits.{Limits}
use Rattle.store.specs.Whole.{set_limits}
use Rattle.checks.specs.Meant.{Meant}
use Rattle.checks.proofs.Verdicts.{takes}
use Rattle.changes.specs.Steps.{then_served}

module _ (l : Limits) (h : House) (i : ℕ) (ls : List ℕ) where
  module _ (g : good_limits ls ≡ true) where
    pub limited : (n : ℕ) (y x : House) → i < length h.legs → length ls ≡ length (leg h.legs i).limits → n ≡ i → y ≡ set_limits h i ls → x ≡ then_served y → Meant l h (limits_to i ls) (number n) x
    unfolding good_fields turned_by told changed
    limited n y x p q en ey ex =
        takes l h (limits_to i ls) (number n) x g (λ can. ap (λ (b : Bool). pick b 0 4) (and_from _ _ (lt-ltb i (length h.legs) p) (eq-eqb (length ls) (length (leg h.legs i).limits) q))) (ap number en)
        (ex ∙ ap then_served ey)
