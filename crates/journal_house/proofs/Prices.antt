-- What a journey can cost at most: as many times the dearest fare as it has legs.
use Rattle.std.proofs.Common.{ℕ, zero, suc, ◌+◌, ◌-◌, ◌*◌, ◌≤◌, Bool, true, false, eqb, ltb, List, [], ◌∷◌, length, take, drop, mul-le-mul, arith, length-drop}
use Rattle.meaning.specs.Lines.{pick, Leg, Fare, fits_fare, cheaper, piece, plus, by_first, by_any, cost_in, cost}
use Rattle.journal.specs.Slots.{AllOf}
use Rattle.journal_rows.specs.Layout.{FineFare}
use Rattle.journal_rows.proofs.Ranges.{fare_range}

cheaper_most : (a b n : ℕ) → a ≤ n → b ≤ n → cheaper a b ≤ n
cheaper_most zero b n p q = q
cheaper_most (suc a) zero n p q = p
cheaper_most (suc a) (suc b) n p q = go (ltb b a)
  where
    go : (t : Bool) → pick t (suc b) (suc a) ≤ n
    go true = q
    go false = p

plus_most : (a b m n : ℕ) → a ≤ suc m → b ≤ suc n → plus a b ≤ suc (m + n)
plus_most zero b m n p q = omega arith
plus_most (suc a) zero m n p q = omega arith
plus_most (suc a) (suc b) m n p q = omega arith

piece_most : (fs : List Fare) (ls : List Leg) (c i : ℕ) (is : List ℕ) → AllOf FineFare fs → piece fs ls c i is ≤ suc 100000000
unfolding piece AllOf
piece_most [] ls c i is a = omega arith
piece_most (f ∷ fs) ls c i is a = cheaper_most _ _ _ (go (fits_fare ls c i is f)) (piece_most fs ls c i is a.1)
  where
    go : (t : Bool) → pick t (suc f.price) 0 ≤ suc 100000000
    go true = omega (arith, (fare_range f a.0).price)
    go false = omega arith

first_most : (fs : List Fare) (ls : List Leg) (c : ℕ) (rest : List ℕ → ℕ) (i : ℕ) (is : List ℕ) (k : ℕ) → AllOf FineFare fs → ((js : List ℕ) → rest js ≤ suc (100000000 * length js)) →
    by_first fs ls c rest i is k ≤ suc (100000000 + 100000000 * length is)
unfolding by_first
first_most fs ls c rest i is zero a r = plus_most _ _ 100000000 (100000000 * length is) (piece_most fs ls c i [] a) (r is)
first_most fs ls c rest i is (suc k) a r =
    cheaper_most _ _ _ (plus_most _ _ 100000000 (100000000 * length is) (piece_most fs ls c i (take (suc k) is) a) (let w = r (drop (suc k) is) in let v = length-drop (suc k) is in omega arith)) (first_most fs ls c rest i is k a r)

-- of a journey
pub cost_most : (n : ℕ) (fs : List Fare) (ls : List Leg) (c : ℕ) (is : List ℕ) → AllOf FineFare fs → cost_in n fs ls c is ≤ suc (100000000 * length is)
unfolding cost_in by_any
cost_most zero fs ls c is a = go (eqb (length is) 0)
  where
    go : (t : Bool) → pick t 1 0 ≤ suc (100000000 * length is)
    go true = omega arith
    go false = omega arith
cost_most (suc n) fs ls c [] a = omega arith
cost_most (suc n) fs ls c (i ∷ is) a = let w = first_most fs ls c (λ js. cost_in n fs ls c js) i is (length is) a (λ js. cost_most n fs ls c js a) in omega arith

-- and of nine seats on eight legs
pub paid_most : (n : ℕ) (fs : List Fare) (ls : List Leg) (c : ℕ) (is : List ℕ) → AllOf FineFare fs → n ≤ 9 → length is ≤ 8 → n * (cost fs ls c is - 1) ≤ 7200000000
paid_most n fs ls c is a p q =
    let w = cost_most (length is) fs ls c is a in
    let v : cost fs ls c is - 1 ≤ 800000000 = omega arith in
    let u : n * (cost fs ls c is - 1) ≤ 9 * 800000000 = mul-le-mul p v in
    u
