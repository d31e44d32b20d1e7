-- What a page says, by its kind.
use Rattle.std.proofs.Common.{◌≡◌, ℕ, Bool, true, false, eqb, List, take, drop, refl, ap, arith}
use mathlib.Core.Option.{Option, none, some}
use Rattle.std.proofs.lemmas.Bool.{eqb-true}
use Rattle.meaning.specs.Lines.{pick, Leg, Fare}
use Rattle.meaning.specs.House.{Booking}
use Rattle.meaning.specs.Calls.{Call}
use Rattle.wire.specs.Bytes.{numbers_in}
use Rattle.wire.specs.Rows.{decoded}
use Rattle.journal_rows.specs.Layout.{Op, taken_call, some_legs, some_fares, some_bookings}
use Rattle.journal_rows.specs.Bytes.{row_leg, row_fare, row_booking, cut, unrow}
use Rattle.journal_rows.specs.Sorts.{kind_in as kind, count_in as count}

-- one of four, by tests
module _ (x : List Leg) (y : List Fare) (z : List Booking) (w : Call) where
  abbrev one_of : Bool → Bool → Bool → Bool → Option Op
  one_of a b c d = pick a (some (some_legs x)) (pick b (some (some_fares y)) (pick c (some (some_bookings z)) (pick d (some (taken_call w)) none)))

  of_legs : (a b c d : Bool) (gs : List Leg) → one_of a b c d ≡ some (some_legs gs) → (a ≡ true) × (x ≡ gs)
  of_legs true b c d gs e = (refl, cc)
  of_legs false true c d gs e = let n : ◌≡◌ {A = ℕ} 0 1 = cc in absurd (omega arith)
  of_legs false false true d gs e = let n : ◌≡◌ {A = ℕ} 0 1 = cc in absurd (omega arith)
  of_legs false false false true gs e = let n : ◌≡◌ {A = ℕ} 0 1 = cc in absurd (omega arith)
  of_legs false false false false gs e = let n : ◌≡◌ {A = ℕ} 0 1 = cc in absurd (omega arith)

  of_fares : (a b c d : Bool) (fs : List Fare) → one_of a b c d ≡ some (some_fares fs) → (b ≡ true) × (y ≡ fs)
  of_fares true b c d fs e = let n : ◌≡◌ {A = ℕ} 0 1 = cc in absurd (omega arith)
  of_fares false true c d fs e = (refl, cc)
  of_fares false false true d fs e = let n : ◌≡◌ {A = ℕ} 0 1 = cc in absurd (omega arith)
  of_fares false false false true fs e = let n : ◌≡◌ {A = ℕ} 0 1 = cc in absurd (omega arith)
  of_fares false false false false fs e = let n : ◌≡◌ {A = ℕ} 0 1 = cc in absurd (omega arith)

  of_bookings : (a b c d : Bool) (bs : List Booking) → one_of a b c d ≡ some (some_bookings bs) → (c ≡ true) × (z ≡ bs)
  of_bookings true b c d bs e = let n : ◌≡◌ {A = ℕ} 0 1 = cc in absurd (omega arith)
  of_bookings false true c d bs e = let n : ◌≡◌ {A = ℕ} 0 1 = cc in absurd (omega arith)
  of_bookings false false true d bs e = (refl, cc)
  of_bookings false false false true bs e = let n : ◌≡◌ {A = ℕ} 0 1 = cc in absurd (omega arith)
  of_bookings false false false false bs e = let n : ◌≡◌ {A = ℕ} 0 1 = cc in absurd (omega arith)

module _ (bs : List ℕ) where
  abbrev pub all_legs : List Leg
  all_legs = cut row_leg 31 (count bs) (drop 2 (numbers_in bs))

  abbrev pub all_fares : List Fare
  all_fares = cut row_fare 5 (count bs) (drop 2 (numbers_in bs))

  abbrev pub all_bookings : List Booking
  all_bookings = cut row_booking 15 (count bs) (drop 2 (numbers_in bs))

  abbrev the_call : Call
  the_call = decoded (take (count bs) (drop 8 bs))

  abbrev by_kind : ℕ → Option Op
  by_kind k = one_of all_legs all_fares all_bookings the_call (eqb k 2) (eqb k 3) (eqb k 4) (eqb k 5)

  -- a page of legs says its legs, and what says legs is one
  pub says_legs : kind bs ≡ 2 → unrow bs ≡ some (some_legs all_legs)
  says_legs e = ap by_kind e

  pub are_legs : (gs : List Leg) → unrow bs ≡ some (some_legs gs) → (kind bs ≡ 2) × (all_legs ≡ gs)
  are_legs gs e = let p = of_legs all_legs all_fares all_bookings the_call (eqb (kind bs) 2) (eqb (kind bs) 3) (eqb (kind bs) 4) (eqb (kind bs) 5) gs e in (eqb-true _ _ p.0, p.1)

  -- of fares
  pub says_fares : kind bs ≡ 3 → unrow bs ≡ some (some_fares all_fares)
  says_fares e = ap by_kind e

  pub are_fares : (fs : List Fare) → unrow bs ≡ some (some_fares fs) → (kind bs ≡ 3) × (all_fares ≡ fs)
  are_fares fs e = let p = of_fares all_legs all_fares all_bookings the_call (eqb (kind bs) 2) (eqb (kind bs) 3) (eqb (kind bs) 4) (eqb (kind bs) 5) fs e in (eqb-true _ _ p.0, p.1)

  -- of bookings
  pub says_bookings : kind bs ≡ 4 → unrow bs ≡ some (some_bookings all_bookings)
  says_bookings e = ap by_kind e

  pub are_bookings : (xs : List Booking) → unrow bs ≡ some (some_bookings xs) → (kind bs ≡ 4) × (all_bookings ≡ xs)
  are_bookings xs e = let p = of_bookings all_legs all_fares all_bookings the_call (eqb (kind bs) 2) (eqb (kind bs) 3) (eqb (kind bs) 4) (eqb (kind bs) 5) xs e in (eqb-true _ _ p.0, p.1)

  -- and of a call
  pub says_call : kind bs ≡ 5 → unrow bs ≡ some (taken_call the_call)
  says_call e = ap by_kind e
