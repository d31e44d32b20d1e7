-- What a booking asks for is in range, and what it leaves.
use Rattle.std.proofs.Common.{◌≡◌, ℕ, ◌+◌, Bool, true, false, List, [], ◌∷◌, length, get_or, sym, refl, ap, ◌∙◌, ap₂, arith}
use Rattle.std.specs.Int.{from_bool}
use Rattle.std.proofs.lemmas.Bool.{lt-ltb, le-leb, and_from}
use Rattle.std.proofs.lemmas.List.{length_push}
use Rattle.meaning.specs.Lines.{pick}
use Rattle.meaning.specs.House.{Booking, House, first_leg}
use Rattle.meaning.specs.Calls.{books, two, good_fields, changed, told, the_booking}
use Rattle.seating.specs.Serving.{all_served, last}
use Rattle.store.specs.Whole.{plus_booking}
use Rattle.calls.specs.Ranges.{Asks}

pub first_is : (is : List ℕ) → first_leg is ≡ get_or is 0 0
unfolding first_leg
first_is [] = refl
first_is (i ∷ is) = refl

-- held or not, as a number
pub as_number : (b : Bool) (n : ℕ) → n ≡ from_bool b → pick b 1 0 ≡ n
as_number true n e = sym e
as_number false n e = sym e

-- a new booking, which waits
abbrev pub asked : ℕ → ℕ → List ℕ → Booking
asked c n is = record { legs = is; class = c; seats = n; stands = 0; until = 0; paid = 0 }

pub books_range : (c n : ℕ) (is : List ℕ) → Asks c n is → good_fields (books c n is) ≡ true
unfolding good_fields
books_range c n is a =
    and_from _ _ (and_from _ _ (lt-ltb c 26 a.class) (and_from _ _ (le-leb 1 n a.least) (le-leb n 9 a.seats))) (and_from _ _ (le-leb 1 (length is) a.some) (le-leb (length is) 8 a.few))

-- the house x where the new booking was pushed and whoever waits served, until now and the time a hold lasts
module _ (h : House) (c n : ℕ) (is : List ℕ) (x : House) (u : ℕ) (eu : u ≡ h.now + h.hold_for) (ex : x ≡ all_served (plus_booking h (asked c n is)) u) where
  pub leaves : x ≡ changed h (books c n is)
  unfolding changed
  leaves = ex ∙ ap (all_served (plus_booking h (asked c n is))) eu

  -- the answer is the new booking's number, and how it stands
  pub says : (m s : ℕ) → m ≡ length h.bookings → (the_booking x (last (plus_booking h (asked c n is)))).stands ≡ s → two m s ≡ told h (books c n is)
  unfolding told
  says m s em es =
      let at : last (plus_booking h (asked c n is)) ≡ length h.bookings = omega (arith, length_push h.bookings (asked c n is)) in
      ap₂ two em (sym es ∙ ap₂ (λ (v : House) (j : ℕ). (the_booking v j).stands) leaves at)
