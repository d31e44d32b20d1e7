-- Legs, journeys, fares, and the cheapest way to pay for a journey. Definitions only: nothing is assumed or proved here.
use Rattle.std.specs.Prelude.{ℕ, zero, suc, ◌+◌, Bool, true, false, ◌&&◌, List, [], ◌∷◌, length, take, drop, ◌==◌, nat_le, nat_lt, slice_index_or}

-- one of two values, by a test
abbrev pub pick : {A : Type 0} → Bool → A → A → A
pick true a b = a
pick false a b = b

-- a leg goes from a place to a place, leaves and arrives at a tick, and has a limit for each class, 0 the dearest: as many may be sold in that class and the cheaper ones together
pub record Leg : Type 0 where
  pub from : ℕ
  pub to : ℕ
  pub leaves : ℕ
  pub arrives : ℕ
  pub limits : List ℕ

-- a fare: for legs that go one after the other from a place to a place in a class, so many at most, so much a seat
pub record Fare : Type 0 where
  pub origin : ℕ
  pub goal : ℕ
  pub class : ℕ
  pub most_legs : ℕ
  pub price : ℕ

-- what stands in the place of a leg that is not there
abbrev pub no_leg : Leg
no_leg = record { from = 0; to = 0; leaves = 0; arrives = 0; limits = [] }

-- the leg of a number
abbrev pub leg : List Leg → ℕ → Leg
leg ls i = slice_index_or ls i no_leg

-- do legs follow each other: each from where the one before arrived, and not sooner than a given time after
unfoldable pub follows : List Leg → ℕ → List ℕ → Bool
follows ls gap [] = true
follows ls gap (i ∷ []) = true
follows ls gap (i ∷ (j ∷ js)) = ((leg ls i).to == (leg ls j).from && nat_le ((leg ls i).arrives + gap) (leg ls j).leaves) && follows ls gap (j ∷ js)

-- the last of some legs of which i is the first
unfoldable pub last_of : ℕ → List ℕ → ℕ
last_of i [] = i
last_of i (j ∷ js) = last_of j js

-- may legs i, then is, be one piece under this fare: from where the first begins to where the last ends, in this class, and no more legs than it allows
abbrev pub fits_fare : List Leg → ℕ → ℕ → List ℕ → Fare → Bool
fits_fare ls c i is f =
    (f.origin == (leg ls i).from && f.goal == (leg ls (last_of i is)).to) && (f.class == c && nat_le (suc (length is)) f.most_legs)

-- the cheaper of two prices that may not be there: 0 is none, and n + 1 the price n
abbrev pub cheaper : ℕ → ℕ → ℕ
cheaper zero b = b
cheaper (suc a) zero = suc a
cheaper (suc a) (suc b) = pick (nat_lt b a) (suc b) (suc a)

-- the cheapest fare for legs i, then is, as one piece: one more than its price, or 0
unfoldable pub piece : List Fare → List Leg → ℕ → ℕ → List ℕ → ℕ
piece [] ls c i is = 0
piece (f ∷ fs) ls c i is = cheaper (pick (fits_fare ls c i is f) (suc f.price) 0) (piece fs ls c i is)

-- what two prices cost together: one more than their sum, or 0 where one is not there
abbrev pub plus : ℕ → ℕ → ℕ
plus zero b = 0
plus (suc a) zero = 0
plus (suc a) (suc b) = suc (a + b)

-- the cheapest over all ways to cut a journey into pieces, each with a fare: of a first piece with at most k more legs, and the rest
unfoldable pub by_first : List Fare → List Leg → ℕ → (List ℕ → ℕ) → ℕ → List ℕ → ℕ → ℕ
by_first fs ls c rest i is zero = plus (piece fs ls c i []) (rest is)
by_first fs ls c rest i is (suc k) = cheaper (plus (piece fs ls c i (take (suc k) is)) (rest (drop (suc k) is))) (by_first fs ls c rest i is k)

-- the cheapest over all first pieces; no legs cost nothing
unfoldable pub by_any : List Fare → List Leg → ℕ → (List ℕ → ℕ) → List ℕ → ℕ
by_any fs ls c rest [] = 1
by_any fs ls c rest (i ∷ is) = by_first fs ls c rest i is (length is)

-- the same for a journey of at most n legs, whose rest is cut in turn
unfoldable pub cost_in : ℕ → List Fare → List Leg → ℕ → List ℕ → ℕ
cost_in zero fs ls c is = pick (length is == 0) 1 0
cost_in (suc n) fs ls c is = by_any fs ls c (λ js. cost_in n fs ls c js) is

-- THE PRICE of a seat on a journey in a class: one more than it, or 0 where there is no fare
abbrev pub cost : List Fare → List Leg → ℕ → List ℕ → ℕ
cost fs ls c is = cost_in (length is) fs ls c is
