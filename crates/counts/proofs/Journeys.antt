-- Counting a booking leg by leg: what its first legs take, and that no leg is among those before it.
use Rattle.std.proofs.Common.{◌≡◌, ℕ, zero, suc, ◌+◌, ◌<◌, Bool, true, false, not, ◌&&◌, ◌||◌, eqb, ltb, leb, ◌⊎◌, List, [], ◌∷◌, ◌++◌, length, get_or, take, sym, refl, ap, ◌∙◌, subst, inl, inr, arith}
use Rattle.std.proofs.lemmas.Bool.{eqb-true, eq-eqb, ne_eqb, and_parts, or_cases, or_from, or_left, or_right, not-true, both_ways}
use Rattle.std.proofs.lemmas.Bool.Decides.{nat_tests}
use Rattle.std.proofs.lemmas.List.{take_more}
use Rattle.meaning.specs.Lines.{pick}
use Rattle.meaning.specs.House.{goes}
use Rattle.meaning.specs.Calls.{no_twice}
use Rattle.records.specs.declared.Booking.{Booking}
use Rattle.records.specs.Words.{leg_in}
use Rattle.counts.specs.Counts.{count_in, Shared, Recounted}

or_none : (t : Bool) → (t || false) ≡ t
or_none true = refl
or_none false = refl

or_regroup : (a b c : Bool) → (a || (b || c)) ≡ ((a || b) || c)
or_regroup true b c = refl
or_regroup false b c = refl

pub goes_push : (xs : List ℕ) (y j : ℕ) → goes (xs ++ (y ∷ [])) j ≡ (goes xs j || eqb y j)
unfolding goes
goes_push [] y j = or_none (eqb y j)
goes_push (x ∷ xs) y j = ap (λ t. eqb x j || t) (goes_push xs y j) ∙ or_regroup (eqb x j) (goes xs j) (eqb y j)

pub goes_has : (xs : List ℕ) (n x j : ℕ) → x < n → x < length xs → get_or xs x 0 ≡ j → goes (take n xs) j ≡ true
unfolding goes
goes_has [] n x j h l e = absurd (omega arith)
goes_has (a ∷ xs) zero x j h l e = absurd (omega arith)
goes_has (a ∷ xs) (suc n) zero j h l e = or_left _ _ (eq-eqb a j e)
goes_has (a ∷ xs) (suc n) (suc x) j h l e = or_right _ _ (goes_has xs n x j (omega arith) (omega arith) e)

pub goes_tells : (xs : List ℕ) (n j : ℕ) → goes (take n xs) j ≡ true → (x : ℕ) × (x < n) × (get_or xs x 0 ≡ j)
unfolding goes
goes_tells xs zero j e = absurd (both_ways false refl e)
goes_tells [] (suc n) j e = absurd (both_ways false refl e)
goes_tells (a ∷ xs) (suc n) j e = go (or_cases _ _ e) (goes_tells xs n j)
  where
    go : (eqb a j ≡ true) ⊎ (goes (take n xs) j ≡ true) → (goes (take n xs) j ≡ true → (x : ℕ) × (x < n) × (get_or xs x 0 ≡ j)) → (x : ℕ) × (x < suc n) × (get_or (a ∷ xs) x 0 ≡ j)
    go (inl u) r = (0, omega arith, eqb-true _ _ u)
    go (inr v) r = let q = r v in (suc q.0, omega (arith, q.1), q.2)

-- a leg is not among those before it
pub new_leg : (xs : List ℕ) (n x : ℕ) → no_twice (take n xs) ≡ true → x < n → x < length xs → goes (take x xs) (get_or xs x 0) ≡ false
unfolding goes no_twice
new_leg [] n x e h l = absurd (omega arith)
new_leg (a ∷ xs) zero x e h l = absurd (omega arith)
new_leg (a ∷ xs) (suc n) zero e h l = refl
new_leg (a ∷ xs) (suc n) (suc x) e h l =
    let p = and_parts (not (goes (take n xs) a)) (no_twice (take n xs)) e in
    or_from _ _ (ne_eqb a (get_or xs x 0) (λ q. both_ways (goes (take n xs) a) (not-true _ p.0) (goes_has xs n x a (omega arith) (omega arith) (sym q))))
    (new_leg xs n x p.1 (omega arith) (omega arith))

-- the first x legs of a booking are counted in the second words, over the first
pub record On (v w : List ℕ) (b : Booking) (x : ℕ) : Type 0 where
  pub counts : (j c : ℕ) → c < 97 → count_in w j c ≡ count_in v j c + pick (goes (take x b.legs) j && leb c b.class) b.seats 0
  pub legs : (j : ℕ) → leg_in w j ≡ leg_in v j

pub on_none : (v : List ℕ) (b : Booking) → On v v b 0
unfolding goes
on_none v b = record { counts = λ j c h. omega arith; legs = λ j. refl }

adds : (g e t u : Bool) (s : ℕ) → (e ≡ true → g ≡ false) → t ≡ u → pick (g && t) s 0 + pick (e && u) s 0 ≡ pick ((g || e) && t) s 0
adds true true t u s f q = absurd (both_ways true (f refl) refl)
adds true false t u s f q = omega arith
adds false true t u s f q = ap (λ (z : Bool). 0 + pick z s 0) (sym q) ∙ (omega arith)
adds false false t u s f q = omega arith

ltb_leb : (c m : ℕ) → leb c m ≡ ltb c (m + 1)
ltb_leb c m = grind (arith, nat_tests)

module _ (b : Booking) (x : ℕ) (l : x < length b.legs) (f : goes (take x b.legs) (get_or b.legs x 0) ≡ false) where
  both : (j c : ℕ) → pick (goes (take x b.legs) j && leb c b.class) b.seats 0 + pick (eqb (get_or b.legs x 0) j && ltb c (b.class + 1)) b.seats 0
      ≡ pick (goes (take (x + 1) b.legs) j && leb c b.class) b.seats 0
  both j c =
      adds (goes (take x b.legs) j) (eqb (get_or b.legs x 0) j) (leb c b.class) (ltb c (b.class + 1)) b.seats
      (λ e. subst (λ v. goes (take x b.legs) v ≡ false) (eqb-true _ _ e) f) (ltb_leb c b.class)
      ∙ ap (λ (t : Bool). pick (t && leb c b.class) b.seats 0) (sym (ap (λ (v : List ℕ). goes v j) (take_more b.legs x 0 l) ∙ goes_push (take x b.legs) (get_or b.legs x 0) j))

  pub on_more : (v w u : List ℕ) → On v w b x → Shared w u (get_or b.legs x 0) (b.class + 1) b.seats → On v u b (x + 1)
  on_more v w u o s = record { counts = λ j c h. omega (arith, o.counts j c h, s.counts j c h, both j c); legs = λ j. s.legs j ∙ o.legs j }

  pub on_less : (v w u : List ℕ) → On w v b x → Shared u w (get_or b.legs x 0) (b.class + 1) b.seats → On u v b (x + 1)
  on_less v w u o s = record { counts = λ j c h. omega (arith, o.counts j c h, s.counts j c h, both j c); legs = λ j. o.legs j ∙ s.legs j }

  pub on_fresh : (v w : List ℕ) (c : ℕ) → On v w b x → c < 97 → count_in w (get_or b.legs x 0) c ≡ count_in v (get_or b.legs x 0) c
  on_fresh v w c o h = omega (arith, o.counts (get_or b.legs x 0) c h, ap (λ (t : Bool). pick (t && leb c b.class) b.seats 0) f)

pub on_taken : (v w : List ℕ) (b : Booking) → On v w b b.count → Recounted v w b false true
on_taken v w b o = record { counts = λ j c h. omega (arith, o.counts j c h); legs = o.legs }

pub on_given : (v w : List ℕ) (b : Booking) → On w v b b.count → Recounted v w b true false
on_given v w b o = record { counts = λ j c h. omega (arith, o.counts j c h); legs = λ j. sym (o.legs j) }
