-- Room as the loops find it: class by class on a leg, and leg by leg on a journey.
use Rattle.std.proofs.Common.{◌≡◌, ℕ, zero, suc, ◌+◌, ◌<◌, ◌≤◌, min, Bool, true, false, ◌&&◌, List, [], ◌∷◌, length, get_or, take, sym, refl, subst, inl, inr, arith}
use Rattle.std.proofs.lemmas.Bool.{eqb-true, eq-eqb, and_parts, and_from, and_left, and_right, or_cases, or_left, both_ways, cases_Bool}
use Rattle.std.proofs.lemmas.List.{length-take-le, get_or-take}
use Rattle.meaning.specs.Lines as lines
use Rattle.meaning.specs.Lines.{leg}
use Rattle.meaning.specs.House.{Booking, goes, taken, room}
use Rattle.meaning.proofs.Room.{Under, room_tells, room_from}
use Rattle.records.specs.declared.Leg.{Leg}
use Rattle.records.specs.Means.{leg_means}

and_true : (t : Bool) → (t && true) ≡ false → t ≡ false
and_true true e = e
and_true false e = refl

-- a leg of the code has as many limits as classes
module _ (ls : List lines.Leg) (i : ℕ) (g : Leg) (means : leg_means g ≡ leg ls i) (whole : g.classes ≤ length g.limits) where
  pub has_classes : length (leg ls i).limits ≡ g.classes
  has_classes = subst (λ (v : lines.Leg). length v.limits ≡ g.classes) means (length-take-le g.classes g.limits whole)

  pub limit_is : (j : ℕ) → j < g.classes → get_or (leg ls i).limits j 0 ≡ get_or g.limits j 0
  limit_is j h = subst (λ (v : lines.Leg). get_or v.limits j 0 ≡ get_or g.limits j 0) means (get_or-take g.classes g.limits j 0 h)

module _ (ls : List lines.Leg) (bs : List Booking) (c n : ℕ) where
  -- every limit from the dearest class to this one holds
  pub under_fits : (i : ℕ) → Under ls bs i c n → room ls bs (i ∷ []) c n ≡ true
  unfolding goes
  under_fits i f =
      room_from ls bs (i ∷ []) c n (λ j g. elim (or_cases _ _ g) [ inl u ↦ subst (λ v. Under ls bs v c n) (eqb-true i j u) f | inr v ↦ absurd (both_ways false refl v) ])

  pub fits_under : (i : ℕ) → room ls bs (i ∷ []) c n ≡ true → Under ls bs i c n
  unfolding goes
  fits_under i e = room_tells ls bs (i ∷ []) c n e i (or_left _ _ (eq-eqb i i refl))

  module _ (i : ℕ) (g : Leg) (means : leg_means g ≡ leg ls i) (whole : g.classes ≤ length g.limits) where
    pub leg_fits : ((j : ℕ) → j < min (c + 1) g.classes → taken bs i j + n ≤ get_or g.limits j 0) → room ls bs (i ∷ []) c n ≡ true
    leg_fits f =
        under_fits i (λ j h k. let q : j < g.classes = omega (arith, has_classes ls i g means whole) in omega (arith, limit_is ls i g means whole j q, f j (omega arith)))

    pub leg_fails : (j : ℕ) → j < min (c + 1) g.classes → get_or g.limits j 0 < taken bs i j + n → room ls bs (i ∷ []) c n ≡ false
    leg_fails j h f = elim (cases_Bool (room ls bs (i ∷ []) c n)) [
      | inl e ↦ (let q : j < g.classes = omega arith in
          absurd (omega (arith, fits_under i e j (omega arith) (omega (arith, has_classes ls i g means whole)), limit_is ls i g means whole j q)))
      | inr e ↦ e
    ]

  -- a journey has room if each of its legs has
  pub all_fit : (is : List ℕ) → ((y : ℕ) → y < length is → room ls bs (get_or is y 0 ∷ []) c n ≡ true) → room ls bs is c n ≡ true
  unfolding room
  all_fit [] f = refl
  all_fit (i ∷ is) f = and_from _ _ (and_parts _ _ (f 0 (omega arith))).0 (all_fit is (λ y h. f (suc y) (omega arith)))

  pub one_fails : (is : List ℕ) (y : ℕ) → y < length is → room ls bs (get_or is y 0 ∷ []) c n ≡ false → room ls bs is c n ≡ false
  unfolding room
  one_fails [] y h e = absurd (omega arith)
  one_fails (i ∷ is) zero h e = and_left _ _ (and_true _ e)
  one_fails (i ∷ is) (suc y) h e = and_right _ _ (one_fails is y (omega arith) e)

  -- the same for the first k numbers of an array
  pub legs_fit : (js : List ℕ) (k : ℕ) → k ≤ length js → ((y : ℕ) → y < k → room ls bs (get_or js y 0 ∷ []) c n ≡ true) → room ls bs (take k js) c n ≡ true
  legs_fit js k h f =
      all_fit (take k js) (λ y q. let s : y < k = omega (arith, length-take-le k js h) in subst (λ v. room ls bs (v ∷ []) c n ≡ true) (sym (get_or-take k js y 0 s)) (f y s))

  pub leg_blocks : (js : List ℕ) (k y : ℕ) → k ≤ length js → y < k → room ls bs (get_or js y 0 ∷ []) c n ≡ false → room ls bs (take k js) c n ≡ false
  leg_blocks js k y h s e =
      one_fails (take k js) y (omega (arith, length-take-le k js h)) (subst (λ v. room ls bs (v ∷ []) c n ≡ false) (sym (get_or-take k js y 0 s)) e)
