-- a leg with one limit is in range
use Rattle.std.proofs.Common.{◌≡◌, ℕ, ◌<◌, [], ◌∷◌, sym, refl, subst, arith, rules}
use Rattle.meaning.specs.Calls.{falling, all_to}
use Rattle.records.specs.Words.{leg_of}
use Rattle.records.specs.declared.Leg.{Leg}
use Rattle.store.specs.Range.{FineLeg}
use Rattle.pricing_tests.proofs.tests.add_leg.Goals as goal

fine : (a b : ℕ) (g : Leg) → a < 65536 → b < 65536 → g ≡ leg_of a b 100 200 (9 ∷ []) → FineLeg g
unfolding falling all_to
fine a b g p q e = subst (λ (l : Leg). FineLeg l) (sym e) (record { from = p; to = q; leaves = omega arith; arrives = omega arith; some = omega arith; classes = omega arith; falling = refl; small = refl })

pub push_leg-requires : goal.push_leg-requires
push_leg-requires g c = record { space = search rules; fine = fine c.args.from c.args.to c.new.result (search rules) (search rules) c.new.ensures }
