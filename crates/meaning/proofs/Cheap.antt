-- The price of a journey is the cheapest over all ways to cut it into pieces.
use Rattle.std.proofs.Common.{◌≡◌, ℕ, zero, suc, ◌+◌, ◌<◌, ◌≤◌, Bool, true, false, ◌≢◌, ◌⊎◌, List, [], ◌∷◌, ◌++◌, length, get_or, take, drop, sym, refl, ap, subst, subst₂, inl, inr, zero-le, arith, length-append, length-drop, take-append-drop}
use Rattle.std.proofs.lemmas.Bool.{leb-true, eqb-true, eq-eqb, le-leb, and_parts, and_from, both_ways, cases_eq, cases_lt}
use Rattle.std.proofs.lemmas.List.{take_at, drop_at}
use Rattle.std.proofs.lemmas.Bool.Decides.{nat_tests}
use Rattle.meaning.specs.Lines.{pick, Leg, Fare, leg, last_of, fits_fare, cheaper, plus, piece, by_first, by_any, cost_in, cost}
use Rattle.meaning.specs.Statements.{one_piece, Way, nothing, then, Cheapest}

-- the least number with P: one more than it, or 0 where there is none
abbrev Best : (ℕ → Type 0) → ℕ → Type 0
Best P zero = (q : ℕ) → P q → ⊥
Best P (suc p) = P p × ((q : ℕ) → P q → p ≤ q)

best_iff : (P Q : ℕ → Type 0) (n : ℕ) → ((q : ℕ) → P q → Q q) → ((q : ℕ) → Q q → P q) → Best P n → Best Q n
best_iff P Q zero f g b = λ q v. b q (g q v)
best_iff P Q (suc n) f g b = (f n b.0, λ q v. b.1 q (g q v))

-- of two prices, the smaller
cheaper_of : (a b : ℕ) → ((b ≤ a) × (cheaper (suc a) (suc b) ≡ suc b)) ⊎ ((a ≤ b) × (cheaper (suc a) (suc b) ≡ suc a))
cheaper_of a b = elim (cases_lt b a) [ inl h ↦ inl (omega arith, grind (arith, nat_tests)) | inr h ↦ inr (h, grind (arith, nat_tests)) ]

best_cheaper : (P Q : ℕ → Type 0) (a b : ℕ) → Best P a → Best Q b → Best (λ q. P q ⊎ Q q) (cheaper a b)
best_cheaper P Q zero zero x y = λ q s. elim s [ inl u ↦ x q u | inr v ↦ y q v ]
best_cheaper P Q zero (suc b) x y = (inr y.0, λ q s. elim s [ inl u ↦ absurd (x q u) | inr v ↦ y.1 q v ])
best_cheaper P Q (suc a) zero x y = (inl x.0, λ q s. elim s [ inl u ↦ x.1 q u | inr v ↦ absurd (y q v) ])
best_cheaper P Q (suc a) (suc b) x y = elim (cheaper_of a b) [
  | inl e ↦ subst (Best (λ q. P q ⊎ Q q)) (sym e.1) (inr y.0, λ q s. elim s [ inl u ↦ omega (arith, e.0, x.1 q u) | inr v ↦ y.1 q v ])
  | inr e ↦ subst (Best (λ q. P q ⊎ Q q)) (sym e.1) (inl x.0, λ q s. elim s [ inl u ↦ x.1 q u | inr v ↦ omega (arith, e.0, y.1 q v) ])
]

abbrev Sum : (ℕ → Type 0) → (ℕ → Type 0) → ℕ → Type 0
Sum P Q r = (p : ℕ) × (q : ℕ) × P p × Q q × (p + q ≡ r)

best_plus : (P Q : ℕ → Type 0) (a b : ℕ) → Best P a → Best Q b → Best (Sum P Q) (plus a b)
best_plus P Q zero b x y = λ r s. x s.0 s.2
best_plus P Q (suc a) zero x y = λ r s. y s.1 s.3
best_plus P Q (suc a) (suc b) x y = ((a, b, x.0, y.0, refl), λ r s. omega (arith, x.1 s.0 s.2, y.1 s.1 s.3, s.4))

-- one fare
abbrev Fits : Fare → List Leg → ℕ → List ℕ → ℕ → Type 0
Fits f ls c is p = (f.price ≡ p) × (f.class ≡ c) × (f.origin ≡ (leg ls (get_or is 0 0)).from) × (f.goal ≡ (leg ls (last_of 0 is)).to) × (length is ≤ f.most_legs)

best_fare : (f : Fare) (ls : List Leg) (c i : ℕ) (is : List ℕ) → Best (Fits f ls c (i ∷ is)) (pick (fits_fare ls c i is f) (suc f.price) 0)
unfolding last_of
best_fare f ls c i is = go (fits_fare ls c i is f) refl
  where
    go : (t : Bool) → fits_fare ls c i is f ≡ t → Best (Fits f ls c (i ∷ is)) (pick t (suc f.price) 0)
    go true e =
        let p = and_parts _ _ e in
        let a = and_parts _ _ p.0 in
        let b = and_parts _ _ p.1 in
        ((refl, eqb-true _ _ b.0, eqb-true _ _ a.0, eqb-true _ _ a.1, leb-true _ _ b.1), λ q s. omega (arith, s.0))
    go false e = λ q s. both_ways (fits_fare ls c i is f) e
        (and_from _ _ (and_from _ _ (eq-eqb _ _ s.2) (eq-eqb _ _ s.3)) (and_from _ _ (eq-eqb _ _ s.1) (le-leb _ _ s.4)))

best_piece : (fs : List Fare) (ls : List Leg) (c i : ℕ) (is : List ℕ) → Best (one_piece fs ls c (i ∷ is)) (piece fs ls c i is)
unfolding one_piece piece
best_piece [] ls c i is = λ q u. u
best_piece (f ∷ fs) ls c i is =
    best_cheaper (Fits f ls c (i ∷ is)) (one_piece fs ls c (i ∷ is)) (pick (fits_fare ls c i is f) (suc f.price) 0) (piece fs ls c i is) (best_fare f ls c i is) (best_piece fs ls c i is)

-- a way is no piece, or a first piece and a way
abbrev Cut : List Fare → List Leg → ℕ → List ℕ → ℕ → Type 0
Cut fs ls c xs r = (is : List ℕ) × (js : List ℕ) × (p : ℕ) × (q : ℕ) × (0 < length is) × one_piece fs ls c is p × Way fs ls c js q × (is ++ js ≡ xs) × (p + q ≡ r)

way_cut : (fs : List Fare) (ls : List Leg) (c : ℕ) (xs : List ℕ) (r : ℕ) → Way fs ls c xs r → ((xs ≡ []) × (r ≡ 0)) ⊎ Cut fs ls c xs r
way_cut fs ls c _ _ nothing = inl (refl, refl)
way_cut fs ls c _ _ (then is js p q h o w) = inr (is, js, p, q, h, o, w, refl, refl)

-- a first piece of at most k more legs
abbrev First : List Fare → List Leg → ℕ → ℕ → List ℕ → ℕ → ℕ → Type 0
First fs ls c i is k r = (j : ℕ) × (j ≤ k) × Sum (one_piece fs ls c (i ∷ take j is)) (Way fs ls c (drop j is)) r

module _ (fs : List Fare) (ls : List Leg) (c : ℕ) where
  best_none : Best (Way fs ls c []) 1
  best_none = (nothing, λ q w. zero-le)

  abbrev Upto : ℕ → Type 0
  Upto n = (is : List ℕ) → length is ≤ n → Best (Way fs ls c is) (cost_in n fs ls c is)

  best_first : (n : ℕ) → Upto n → (i : ℕ) (is : List ℕ) (k : ℕ) → length is ≤ n → Best (First fs ls c i is k) (by_first fs ls c (λ js. cost_in n fs ls c js) i is k)
  unfolding by_first
  best_first n up i is zero h =
      best_iff (Sum (one_piece fs ls c (i ∷ [])) (Way fs ls c is)) (First fs ls c i is zero) _
      (λ q s. (0, zero-le, s)) (λ q s. let e : s.0 ≡ 0 = omega (arith, s.1) in subst (λ j. Sum (one_piece fs ls c (i ∷ take j is)) (Way fs ls c (drop j is)) q) e s.2)
      (best_plus (one_piece fs ls c (i ∷ [])) (Way fs ls c is) (piece fs ls c i []) (cost_in n fs ls c is) (best_piece fs ls c i []) (up is h))
  best_first n up i is (suc k) h =
      best_iff (λ r. Sum (one_piece fs ls c (i ∷ take (suc k) is)) (Way fs ls c (drop (suc k) is)) r ⊎ First fs ls c i is k r) (First fs ls c i is (suc k)) _
      (λ q s. elim s [ inl u ↦ (suc k, omega arith, u) | inr v ↦ (v.0, omega (arith, v.1), v.2) ])
      (λ q s. elim (cases_eq s.0 (suc k)) [
        | inl e ↦ inl (subst (λ j. Sum (one_piece fs ls c (i ∷ take j is)) (Way fs ls c (drop j is)) q) e s.2)
        | inr n ↦ inr (s.0, (let m : s.0 ≢ suc k = n in omega (arith, s.1)), s.2)
      ])
      (best_cheaper (Sum (one_piece fs ls c (i ∷ take (suc k) is)) (Way fs ls c (drop (suc k) is))) (First fs ls c i is k)
      (plus (piece fs ls c i (take (suc k) is)) (cost_in n fs ls c (drop (suc k) is))) (by_first fs ls c (λ js. cost_in n fs ls c js) i is k)
      (best_plus (one_piece fs ls c (i ∷ take (suc k) is)) (Way fs ls c (drop (suc k) is)) (piece fs ls c i (take (suc k) is)) (cost_in n fs ls c (drop (suc k) is))
      (best_piece fs ls c i (take (suc k) is)) (up (drop (suc k) is) (omega (arith, length-drop (suc k) is))))
      (best_first n up i is k h))

  first_way : (i : ℕ) (is : List ℕ) (k r : ℕ) → First fs ls c i is k r → Way fs ls c (i ∷ is) r
  first_way i is k r s = subst₂ (Way fs ls c) (ap (λ (l : List ℕ). i ∷ l) (take-append-drop s.0 is)) s.2.4 (then (i ∷ take s.0 is) (drop s.0 is) s.2.0 s.2.1 (omega arith) s.2.2 s.2.3)

  cut_first : (i : ℕ) (is : List ℕ) (r : ℕ) (xs js : List ℕ) (p q : ℕ) → 0 < length xs → one_piece fs ls c xs p → Way fs ls c js q → xs ++ js ≡ i ∷ is → p + q ≡ r → First fs ls c i is (length is) r
  cut_first i is r [] js p q h o w e f = absurd (omega arith)
  cut_first i is r (x ∷ xs) js p q h o w e f =
      let t : xs ++ js ≡ is = cc in
      let a = take_at xs js (length xs) refl in
      let b = drop_at xs js (length xs) refl in
      let u : x ∷ xs ≡ i ∷ take (length xs) is = cc in
      let v : js ≡ drop (length xs) is = cc in
      (length xs, omega (arith, length-append xs js, ap length t), (p, q, subst (λ l. one_piece fs ls c l p) u o, subst (λ l. Way fs ls c l q) v w, f))

  way_first : (i : ℕ) (is : List ℕ) (r : ℕ) → Way fs ls c (i ∷ is) r → First fs ls c i is (length is) r
  way_first i is r w = elim (way_cut fs ls c (i ∷ is) r w) [ inl e ↦ absurd (omega (arith, ap length e.0)) | inr k ↦ cut_first i is r k.0 k.1 k.2 k.3 k.4 k.5 k.6 k.7 k.8 ]

  best_in : (n : ℕ) → Upto n
  unfolding cost_in by_any
  best_in zero [] h = best_none
  best_in zero (i ∷ is) h = absurd (omega arith)
  best_in (suc n) [] h = best_none
  best_in (suc n) (i ∷ is) h =
      best_iff (First fs ls c i is (length is)) (Way fs ls c (i ∷ is)) _ (first_way i is (length is)) (way_first i is)
      (best_first n (best_in n) i is (length is) (omega arith))

told_best : (P : ℕ → Type 0) (n : ℕ) → Best P n → ((p : ℕ) → n ≡ suc p → P p × ((q : ℕ) → P q → p ≤ q)) × (n ≡ 0 → (q : ℕ) → P q → ⊥)
told_best P zero b = (λ p e. absurd (omega arith), λ e. b)
told_best P (suc n) b = (λ p e. subst (Best P) e b, λ e. absurd (omega arith))

pub cheapest : Cheapest
unfolding Cheapest
cheapest fs ls c is = told_best (Way fs ls c is) (cost fs ls c is) (best_in fs ls c (length is) is (omega arith))
