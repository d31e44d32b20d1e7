-- Where no misfit is told, limits are in range and memory is enough.
use Rattle.std.proofs.Common.{◌≡◌, ℕ, Bool, true, false, Some, None, Option, refl, arith}
use Rattle.std.proofs.lemmas.Bool.{and_parts, leb-true, ltb-false}
use Rattle.meaning.specs.Lines.{pick}
use Rattle.limits.specs.Opening.{InRange, in_range, Enough, misfit_of}
use Rattle.limits.specs.declared.Limits.{Limits}
use Rattle.limits.specs.declared.Sizes.{Sizes}
use Rattle.limits.specs.declared.Misfit.{Misfit}

-- the test of limits tells what it says
pub range_tells : (l : Limits) → in_range l ≡ true → InRange l
range_tells l e =
    let p = and_parts _ _ e in
    let a = and_parts _ _ p.0 in
    let h = and_parts _ _ a.1 in
    let b = and_parts _ _ p.1 in
    let f = and_parts _ _ b.1 in
    (leb-true _ _ a.0, leb-true _ _ h.0, leb-true _ _ h.1, leb-true _ _ b.0, leb-true _ _ f.0, leb-true _ _ f.1)

-- a way on which something is told is not the one on which nothing is
first_way : (t : Bool) (m : Misfit) (o : Option Misfit) → pick t (Some m) o ≡ None → (t ≡ false) × (o ≡ None)
first_way true m o e = let z : ◌≡◌ {A = ℕ} 0 1 = cc in absurd (omega arith)
first_way false m o e = (refl, e)

last_way : (t : Bool) (m : Misfit) (o : Option Misfit) → pick t o (Some m) ≡ None → (t ≡ true) × (o ≡ None)
last_way true m o e = (refl, e)
last_way false m o e = let z : ◌≡◌ {A = ℕ} 0 1 = cc in absurd (omega arith)

-- nothing told
pub enough : (l : Limits) (s : Sizes) → misfit_of l s ≡ None → Enough l s
enough l s e =
    let r = last_way _ _ _ e in
    let a = first_way _ _ _ r.1 in
    let b = first_way _ _ _ a.1 in
    let c = first_way _ _ _ b.1 in
    let d = first_way _ _ _ c.1 in
    record {
      limits = range_tells l r.0;
      legs = ltb-false _ _ a.0;
      fares = ltb-false _ _ b.0;
      bookings = ltb-false _ _ c.0;
      sums = ltb-false _ _ d.0;
    }
