-- Prices that may not be there, and which fares are for a stretch of a journey. Definitions only: nothing is assumed or proved here.
use Rattle.std.specs.Prelude.{ℕ, suc, ◌<◌, ◌≤◌, Bool, ◌&&◌, List, length, Some, None, Option, ◌==◌, nat_le, slice_index}
use Rattle.meaning.specs.Lines.{Leg, leg, last_of}
use Rattle.meaning.specs.Lines as lines
use Rattle.meaning.specs.Statements.{Way}
use Rattle.records.specs.declared.Fare.{Fare}
use Rattle.pricing.specs.declared.Stretch.{Stretch}

-- a price that may not be there, as the meaning counts it: 0 is none, and n + 1 the price n
abbrev pub coded : Option ℕ → ℕ
coded None = 0
coded (Some p) = suc p

-- the price of a journey in the words of those who pay: some way to cut it costs just that, and none costs less; where there is no price, no way has fares
abbrev pub BestWay : List lines.Fare → List Leg → ℕ → List ℕ → Option ℕ → Type 0
BestWay fs ls c is None = (q : ℕ) → Way fs ls c is q → ⊥
BestWay fs ls c is (Some p) = Way fs ls c is p × ((q : ℕ) → Way fs ls c is q → p ≤ q)

-- all these legs are there
abbrev pub There : List Leg → List ℕ → Type 0
There ls is = (x : ℕ) → x < length is → slice_index is x < length ls

-- is a fare for a stretch: between the same places, in the same class, and for as many legs at least
abbrev pub fits : Fare → Stretch → Bool
fits f s = (f.origin == s.from && f.goal == s.to) && (f.class == s.class && nat_le s.legs f.most)

-- the stretch that legs i, then is, are as one piece in a class: from where the first begins to where the last ends
abbrev pub stretch : List Leg → ℕ → ℕ → List ℕ → Stretch
stretch ls c i is = record { from = (leg ls i).from; to = (leg ls (last_of i is)).to; class = c; legs = suc (length is) }
