-- limits of 1 in each class never rise, and are small
use Rattle.std.proofs.Common.{◌≡◌, true, [], ◌∷◌, refl}
use Rattle.meaning.specs.Calls.{falling, all_to}
use Rattle.store_tests.proofs.tests.go_on.Goals as goal

falls : falling (1 ∷ 1 ∷ 1 ∷ []) ≡ true
unfolding falling
falls = refl

small : all_to 1000 (1 ∷ 1 ∷ 1 ∷ []) ≡ true
unfolding all_to
small = refl

pub limit-requires : goal.limit-requires
limit-requires g c = record { falling = falls; small = small }
