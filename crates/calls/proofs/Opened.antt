-- The range of a leg is that of its numbers and that of its limits.
use Rattle.std.proofs.Common.{◌≡◌, ℕ, Bool, true, false, ◌&&◌, ltb, List, refl}
use Rattle.meaning.specs.Calls.{opens, good_fields, good_limits}
use Rattle.checks.specs.Ranges.{leg_fits}

pub opens_range : (a b c d : ℕ) (ls : List ℕ) → good_fields (opens a b c d ls) ≡ (leg_fits a b c d && good_limits ls)
unfolding good_fields
opens_range a b c d ls = regroup (ltb a 65536 && ltb b 65536) (ltb c d && ltb d 16777216) (good_limits ls)
  where
    regroup : (p q r : Bool) → (p && (q && r)) ≡ ((p && q) && r)
    regroup true q r = refl
    regroup false q r = refl
