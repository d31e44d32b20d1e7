-- What the ranges of records and calls say: their numbers fit four bytes, and their lists are short.
use Rattle.std.proofs.Common.{◌≡◌, ℕ, ◌<◌, ◌≤◌, true, leb, List, [], ◌∷◌, length, arith}
use Rattle.std.proofs.lemmas.Bool.{and_parts, leb-true}
use Rattle.std.proofs.lemmas.Bool.Decides.{nat_tests}
use Rattle.meaning.specs.Lines.{Leg, Fare}
use Rattle.meaning.specs.Calls.{Call, opens, files, books, pays, cancels, limits_to, ticks, free, price_of, booking, leg_is, garbled, call_number, good_fields, good_limits, all_to}
use Rattle.protocol.specs.Forms.{fields, listing}
use Rattle.journal.specs.Slots.{AllOf}
use Rattle.journal_rows.specs.Layout.{is_change, FineLeg, FineFare}

-- a number that fits four bytes
abbrev pub Small : ℕ → Type 0
Small n = n < 4294967296

all_to_small : (m : ℕ) (xs : List ℕ) → m < 4294967296 → all_to m xs ≡ true → AllOf Small xs
unfolding all_to AllOf
all_to_small m [] h e = tt
all_to_small m (x ∷ xs) h e = let both = and_parts (leb x m) (all_to m xs) e in (let w = leb-true x m both.0 in omega arith, all_to_small m xs h both.1)

-- the limits of a leg
pub record LimitsRange (ls : List ℕ) : Type 0 where
  pub few : length ls ≤ 26
  pub small : AllOf Small ls

pub limits_range : (ls : List ℕ) → good_limits ls ≡ true → LimitsRange ls
limits_range ls e = record { few = grind (arith, nat_tests); small = all_to_small 1000 ls (omega arith) (grind (arith, nat_tests)) }

-- the numbers of a leg
pub record LegRange (g : Leg) : Type 0 where
  pub from : g.from < 65536
  pub to : g.to < 65536
  pub leaves : g.leaves < 16777216
  pub arrives : g.arrives < 16777216
  pub limits : LimitsRange g.limits

pub leg_range : (g : Leg) → FineLeg g → LegRange g
unfolding good_fields
leg_range g f =
    record { from = grind (arith, nat_tests); to = grind (arith, nat_tests); leaves = grind (arith, nat_tests); arrives = grind (arith, nat_tests); limits = limits_range g.limits (grind (arith, nat_tests)) }

-- the numbers of a fare
pub record FareRange (f : Fare) : Type 0 where
  pub origin : f.origin < 65536
  pub goal : f.goal < 65536
  pub class : f.class < 26
  pub most_legs : f.most_legs ≤ 8
  pub price : f.price ≤ 100000000

pub fare_range : (f : Fare) → FineFare f → FareRange f
unfolding good_fields
fare_range f e = record { origin = grind (arith, nat_tests); goal = grind (arith, nat_tests); class = grind (arith, nat_tests); most_legs = grind (arith, nat_tests); price = grind (arith, nat_tests) }

-- the numbers of what is booked
pub record BookedRange (c n : ℕ) (is : List ℕ) : Type 0 where
  pub class : c < 26
  pub seats : n ≤ 9
  pub few : length is ≤ 8

pub booked_range : (c n : ℕ) (is : List ℕ) → good_fields (books c n is) ≡ true → BookedRange c n is
unfolding good_fields
booked_range c n is e = record { class = grind (arith, nat_tests); seats = grind (arith, nat_tests); few = grind (arith, nat_tests) }

-- a call that can change the house and is in range: it is one of the calls, and short
pub record CallRange (c : Call) : Type 0 where
  pub number : call_number c ≤ 6
  pub numbers : length (fields c) ≤ 5
  pub list : length (listing c) ≤ 26

pub call_range : (c : Call) → good_fields c ≡ true → is_change c ≡ true → CallRange c
unfolding good_fields is_change call_number
call_range (opens a b c d ls) g i = record { number = omega arith; numbers = omega arith; list = grind (arith, nat_tests) }
call_range (files a b c n p) g i = record { number = omega arith; numbers = omega arith; list = omega arith }
call_range (books c n is) g i = record { number = omega arith; numbers = omega arith; list = let w = (booked_range c n is g).few in omega arith }
call_range (pays k) g i = record { number = omega arith; numbers = omega arith; list = omega arith }
call_range (cancels k) g i = record { number = omega arith; numbers = omega arith; list = omega arith }
call_range (limits_to j ls) g i = record { number = omega arith; numbers = omega arith; list = (limits_range ls g).few }
call_range (ticks n) g i = record { number = omega arith; numbers = omega arith; list = omega arith }
call_range (free j c) g i = let z : ◌≡◌ {A = ℕ} 0 1 = cc in absurd (omega arith)
call_range (price_of c is) g i = let z : ◌≡◌ {A = ℕ} 0 1 = cc in absurd (omega arith)
call_range (booking k) g i = let z : ◌≡◌ {A = ℕ} 0 1 = cc in absurd (omega arith)
call_range (leg_is j) g i = let z : ◌≡◌ {A = ℕ} 0 1 = cc in absurd (omega arith)
call_range (garbled n) g i = let z : ◌≡◌ {A = ℕ} 0 1 = cc in absurd (omega arith)
