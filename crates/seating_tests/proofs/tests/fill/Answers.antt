-- the three legs are in range, by the meaning's own test
use Rattle.std.proofs.Common.{[], ◌∷◌, refl, arith}
use Rattle.meaning.specs.Calls.{good_fields, falling, all_to}
use Rattle.records.specs.Words.{leg_of}
use Rattle.store.specs.Range.{FineLeg}
use Rattle.store.proofs.Ranges.{new_leg_fine}
use Rattle.seating_tests.proofs.tests.fill.Goals as goal

first : FineLeg (leg_of 1 2 100 150 (5 ∷ 3 ∷ 2 ∷ []))
unfolding good_fields falling all_to
first = new_leg_fine 1 2 100 150 (5 ∷ 3 ∷ 2 ∷ []) refl

second : FineLeg (leg_of 2 3 200 250 (5 ∷ 4 ∷ []))
unfolding good_fields falling all_to
second = new_leg_fine 2 3 200 250 (5 ∷ 4 ∷ []) refl

third : FineLeg (leg_of 3 4 300 350 (1000 ∷ 1000 ∷ []))
unfolding good_fields falling all_to
third = new_leg_fine 3 4 300 350 (1000 ∷ 1000 ∷ []) refl

pub add_leg-requires : goal.add_leg-requires
add_leg-requires g c = record { range = omega arith; fine = first }

pub add_leg-requires-2 : goal.add_leg-requires-2
add_leg-requires-2 g c = record { range = omega arith; fine = second }

pub add_leg-requires-3 : goal.add_leg-requires-3
add_leg-requires-3 g c = record { range = omega arith; fine = third }
