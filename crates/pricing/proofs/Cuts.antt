-- The least price of all fares is that of one piece, and first pieces one leg longer each time come to the cheapest.
use Rattle.std.proofs.Common.{◌≡◌, ℕ, zero, suc, ◌+◌, ◌-◌, ◌<◌, ◌≤◌, min, Bool, true, false, ◌&&◌, cond, eqb, ltb, leb, List, [], ◌∷◌, map, length, get_or, take, drop, Some, None, Option, sym, refl, ap, ◌∙◌, add-one, arith}
use Rattle.std.specs.List.{filter, fold, reduce}
use Rattle.std.specs.Option.{option_map}
use Rattle.std.proofs.lemmas.List.{drop_more, drop-take, drop-drop, get_or-take, length-drop}
use Rattle.std.proofs.lemmas.Bool.Decides.{nat_tests}
use Rattle.meaning.specs.Lines.{pick, Leg, Fare, last_of, fits_fare, cheaper, piece, plus, by_first, by_any, cost_in, cost}
use Rattle.meaning.specs.Statements.{Cheapest}
use Rattle.meaning.proofs.Cheap.{cheapest}
use Rattle.pricing.specs.declared.Stretch.{Stretch}
use Rattle.pricing.specs.Prices.{BestWay, coded, stretch}

-- no price is never the cheaper one
pub cheaper_none : (x : ℕ) → cheaper x 0 ≡ x
cheaper_none zero = refl
cheaper_none (suc x) = refl

-- the cheaper of two, either way round
pub cheaper_swap : (a b : ℕ) → cheaper a b ≡ cheaper b a
cheaper_swap zero b = sym (cheaper_none b)
cheaper_swap (suc a) zero = refl
cheaper_swap (suc a) (suc b) = grind (arith, nat_tests)

-- the cheapest of three, whichever two are compared first
pub cheaper_three : (a b c : ℕ) → cheaper (cheaper a b) c ≡ cheaper a (cheaper b c)
cheaper_three zero b c = refl
cheaper_three (suc a) zero c = refl
cheaper_three (suc a) (suc b) zero = cheaper_none (cheaper (suc a) (suc b))
cheaper_three (suc a) (suc b) (suc c) = grind (arith, nat_tests)

-- the smaller of two prices is the cheaper
sooner : (a b : ℕ) → suc (min a b) ≡ cheaper (suc a) (suc b)
sooner a b = grind (arith, nat_tests)

-- the cheaper of two is no more than both may be
pub cheaper_le : (a b r n : ℕ) → r ≡ cheaper a b → a ≤ n → b ≤ n → r ≤ n
cheaper_le zero b r n e p q = omega arith
cheaper_le (suc a) zero r n e p q = omega arith
cheaper_le (suc a) (suc b) r n e p q = go (ltb b a) e
  where
    go : (t : Bool) → r ≡ pick t (suc b) (suc a) → r ≤ n
    go true f = omega arith
    go false f = omega arith

-- the last of some legs, by its place behind the first
last_at : (a : ℕ) (p : List ℕ) (n : ℕ) → n ≡ length p → last_of a p ≡ get_or (a ∷ p) n 0
unfolding last_of
last_at a [] zero e = refl
last_at a [] (suc n) e = absurd (omega arith)
last_at a (b ∷ p) zero e = absurd (omega arith)
last_at a (b ∷ p) (suc n) e = last_at b p n (omega arith)

-- the last of some legs stands in the last place
pub last_is : (p : List ℕ) → 0 < length p → last_of (get_or p 0 0) (drop 1 p) ≡ get_or p (length p - 1) 0
last_is p h = last_at (get_or p 0 0) (drop 1 p) (length p - 1) (omega (arith, length-drop 1 p)) ∙ ap (λ (v : List ℕ). get_or v (length p - 1) 0) (sym (drop_more p 0 0 h))

-- is a fare of the meaning for a stretch
abbrev pub asked_for : Fare → Stretch → Bool
asked_for f s = (eqb f.origin s.from && eqb f.goal s.to) && (eqb f.class s.class && leb s.legs f.most_legs)

-- what the fares for a stretch cost
abbrev pub prices : Stretch → List Fare → List ℕ
prices s fs = map (λ (f : Fare). f.price) (filter (λ f. asked_for f s) fs)

-- the least of those that are gone through yet and of the others is the cheapest
least : (ls : List Leg) (c i : ℕ) (is : List ℕ) (fs : List Fare) (x : ℕ) → suc (fold min x (prices (stretch ls c i is) fs)) ≡ cheaper (suc x) (piece fs ls c i is)
unfolding piece
least ls c i is [] x = refl
least ls c i is (f ∷ fs) x = go (fits_fare ls c i is f) (λ y. least ls c i is fs y)
  where
    go : (t : Bool) → ((y : ℕ) → suc (fold min y (prices (stretch ls c i is) fs)) ≡ cheaper (suc y) (piece fs ls c i is)) → suc (fold min x (map (λ (g : Fare). g.price) (cond t (f ∷ filter (λ g. fits_fare ls c i is g) fs) (filter (λ g. fits_fare ls c i is g) fs)))) ≡ cheaper (suc x) (cheaper (pick t (suc f.price) 0) (piece fs ls c i is))
    go true e = e (min x f.price) ∙ ap (λ (v : ℕ). cheaper v (piece fs ls c i is)) (sooner x f.price) ∙ cheaper_three (suc x) (suc f.price) (piece fs ls c i is)
    go false e = e x

all_priced : (ls : List Leg) (c i : ℕ) (is : List ℕ) (fs : List Fare) → coded (reduce min (prices (stretch ls c i is) fs)) ≡ piece fs ls c i is
unfolding piece
all_priced ls c i is [] = refl
all_priced ls c i is (f ∷ fs) = go (fits_fare ls c i is f) (all_priced ls c i is fs)
  where
    go : (t : Bool) → coded (reduce min (prices (stretch ls c i is) fs)) ≡ piece fs ls c i is →
        coded (reduce min (map (λ (g : Fare). g.price) (cond t (f ∷ filter (λ g. fits_fare ls c i is g) fs) (filter (λ g. fits_fare ls c i is g) fs)))) ≡ cheaper (pick t (suc f.price) 0) (piece fs ls c i is)
    go true e = least ls c i is fs f.price
    go false e = e

as_it_is : (r : Option ℕ) → coded r ≡ coded (option_map (λ x. x) r)
as_it_is None = refl
as_it_is (Some x) = refl

-- the least price of all fares for the stretch that some legs are is what they cost as one piece
pub piece_is : (ls : List Leg) (c i : ℕ) (is : List ℕ) (fs : List Fare) (s : Stretch) → s ≡ stretch ls c i is → (r : Option ℕ) → option_map (λ x. x) r ≡ reduce min (prices s fs) → coded r ≡ piece fs ls c i is
piece_is ls c i is fs s e r h = as_it_is r ∙ ap coded h ∙ ap (λ (v : Stretch). coded (reduce min (prices v fs))) e ∙ all_priced ls c i is fs

-- the cheapest for a journey with a first piece of at most k legs, the rest of at most n legs cut in turn
abbrev pub to : List Fare → List Leg → ℕ → ℕ → List ℕ → ℕ → ℕ
to fs ls c n js zero = 0
to fs ls c n js (suc k) = by_first fs ls c (λ v. cost_in n fs ls c v) (get_or js 0 0) (drop 1 js) k

-- the cheapest with a first piece of one leg more, as the meaning has it
to_suc : (fs : List Fare) (ls : List Leg) (c n : ℕ) (js : List ℕ) (k : ℕ) →
    to fs ls c n js (suc k) ≡ cheaper (plus (piece fs ls c (get_or js 0 0) (take k (drop 1 js))) (cost_in n fs ls c (drop k (drop 1 js)))) (to fs ls c n js k)
unfolding by_first
to_suc fs ls c n js zero = sym (cheaper_none (plus (piece fs ls c (get_or js 0 0) []) (cost_in n fs ls c (drop 1 js))))
to_suc fs ls c n js (suc k) = refl

-- a first piece of one leg more: what it costs, what the legs left cost, and the cheapest before and now
pub to_more : (fs : List Fare) (ls : List Leg) (c n : ℕ) (js : List ℕ) (k : ℕ) (part left : List ℕ) (h a b r : ℕ) → part ≡ take (1 + k) js → left ≡ drop (1 + k) js →
    h ≡ piece fs ls c (get_or part 0 0) (drop 1 part) → a ≡ cost_in n fs ls c left → b ≡ to fs ls c n js k → r ≡ cheaper b (plus h a) → r ≡ to fs ls c n js (k + 1)
to_more fs ls c n js k part left h a b r p q e f g t =
    let x : get_or part 0 0 ≡ get_or js 0 0 = ap (λ (v : List ℕ). get_or v 0 0) p ∙ get_or-take (1 + k) js 0 0 (omega arith) in
    let y : drop 1 part ≡ take k (drop 1 js) = ap (λ (v : List ℕ). drop 1 v) p ∙ drop-take 1 k js in
    let w : left ≡ drop k (drop 1 js) = q ∙ sym (drop-drop k 1 js) in
    t ∙ cheaper_swap b (plus h a)
    ∙ (λ d. cheaper (plus (e d) (f d)) (g d))
    ∙ (λ d. cheaper (plus (piece fs ls c (x d) (y d)) (cost_in n fs ls c (w d))) (to fs ls c n js k))
    ∙ sym (ap (λ (z : ℕ). to fs ls c n js z) (add-one k) ∙ to_suc fs ls c n js k)

-- no legs cost nothing
pub cost_none : (n : ℕ) (fs : List Fare) (ls : List Leg) (c : ℕ) (js : List ℕ) → length js ≡ 0 → 1 ≡ cost_in n fs ls c js
unfolding cost_in by_any
cost_none zero fs ls c [] h = refl
cost_none (suc n) fs ls c [] h = refl
cost_none n fs ls c (j ∷ js) h = absurd (omega arith)

-- all first pieces
pub cost_some : (n : ℕ) (fs : List Fare) (ls : List Leg) (c : ℕ) (js : List ℕ) (b : ℕ) → 0 < length js → length js ≤ n →
    ((m : ℕ) → length js ≤ m + 1 → b ≡ to fs ls c m js (length js)) → b ≡ cost_in n fs ls c js
unfolding cost_in by_any
cost_some n fs ls c [] b h l e = absurd (omega arith)
cost_some zero fs ls c (j ∷ js) b h l e = absurd (omega arith)
cost_some (suc n) fs ls c (j ∷ js) b h l e = e n (omega arith)

-- the price is that of the best way
pub best_way : (fs : List Fare) (ls : List Leg) (c : ℕ) (is : List ℕ) (r : Option ℕ) → coded r ≡ cost fs ls c is → BestWay fs ls c is r
unfolding Cheapest
best_way fs ls c is None e = (cheapest fs ls c is).1 (sym e)
best_way fs ls c is (Some p) e = (cheapest fs ls c is).0 p (sym e)
